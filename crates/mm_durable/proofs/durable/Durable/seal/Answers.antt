use Rattle.std.proofs.Common.{◌≡◌, ◌+◌, true, ◌∙◌, sym, subst, arith}
use Rattle.mm_section.specs.declared.section.Section.{Section}
use Rattle.mm_crash.specs.Story.{with_section}
use Rattle.mm_crash.specs.Rest.{IsNext}
use Rattle.mm_journal.proofs.Real.{the_format, the_names}
use Rattle.mm_durable.specs.Names.{ArePartsOf}
use Rattle.mm_durable.specs.Log.{HasMore, IsKept, sealed}
use Rattle.mm_durable.specs.Intake.{lists}
use Rattle.mm_durable.specs.Durable.{next_section}
use Rattle.mm_durable.proofs.Sealed.{section_room, parts_room, section_as, can_next, own_next, few_next, next_comes, next_images, intake_next, sealed_more, images_moved, intake_moved}
use Rattle.mm_durable.proofs.Serving.{goes_as, safe_as}
use Rattle.mm_durable.proofs.durable.Durable.seal.Goals as goal

pub seal-requires : goal.seal-requires
seal-requires g c =
    let room = parts_room c.args.self.now c.requires.orderly c.requires.ready in
    record { none = room.0; room = room.1 }

pub add-requires : goal.add-requires
add-requires g c =
    let old = c.args.self.now in
    let r = c.requires in
    let parts = c.new-parts.ensures ∙ c.seal.ensures.parts in
    let is = section_as old r.orderly r.ready r.closed c.next_number-number.result c.new-parts.result c.next_number-number.ensures parts in
    record {
      sound = r.orderly.sound;
      room = section_room old r.orderly r.ready;
      can = subst (λ (x : Section). the_format.can x ≡ true) (sym is) (can_next old r.orderly r.ready r.closed);
      own = subst (ArePartsOf old.log.names.items) (sym parts) (own_next old r.orderly r.ready r.closed);
      few = few_next old r.orderly r.ready r.closed;
    }

pub returns-clause-more : goal.returns-clause-more
returns-clause-more g c =
    let old = c.args.self.now in
    let r = c.requires in
    subst (λ (x : Section). HasMore old.log x c.add.«new».self) (section_as old r.orderly r.ready r.closed c.next_number-number.result c.new-parts.result c.next_number-number.ensures (c.new-parts.ensures ∙ c.seal.ensures.parts)) c.add.ensures.more

pub returns-clause-counts : goal.returns-clause-counts
returns-clause-counts g c = c.add.ensures.counts

pub returns-clause-feeds : goal.returns-clause-feeds
returns-clause-feeds g c = c.seal.ensures.feeds

pub returns-clause-orderly : goal.returns-clause-orderly
returns-clause-orderly g c =
    let old = c.args.self.now in
    let r = c.requires in
    record {
      sound = c.add.ensures.sound;
      goes = λ e. goes_as old.log c.add.«new».self c.add.ensures.journal c.add.ensures.counts.receipts_kept (r.orderly.goes e);
      intake_is = intake_moved old.log.names.items c.add.«new».self.names.items (sealed old.log + 1) (sealed c.add.«new».self) c.seal.«new».self c.add.ensures.more.names (sealed_more old.log c.add.«new».self _ c.add.ensures.more)
          (intake_next old r.orderly r.ready r.closed c.seal.«new».self c.seal.ensures.feeds c.seal.ensures.seats r.entry);
    }

pub returns-clause-kept : goal.returns-clause-kept
returns-clause-kept g c = λ t u story history k.
    let old = c.args.self.now in
    let r = c.requires in
    let is = section_as old r.orderly r.ready r.closed c.next_number-number.result c.new-parts.result c.next_number-number.ensures (c.new-parts.ensures ∙ c.seal.ensures.parts) in
    record {
      log_is = subst (λ (x : Section). IsKept t (with_section story x) history c.add.«new».self u) is
          (c.add.ensures.kept t u story history k.log_is (subst (λ (x : Section). IsNext the_format the_names story x) (sym is) (next_comes old r.orderly r.ready r.closed t u story history k)));
      images = images_moved old.log.names.items c.add.«new».self.names.items (lists old.intake) (lists c.seal.«new».self) (with_section story (next_section old)) c.add.ensures.more.names c.seal.ensures.feeds.lists_kept
          (next_images old r.orderly r.ready r.closed t u story history k);
    }

pub returns-clause-safe : goal.returns-clause-safe
returns-clause-safe g c = λ t u story history k.
    let old = c.args.self.now in
    safe_as t u story history old.log c.add.«new».self old.intake c.seal.«new».self c.add.ensures.more.names c.seal.ensures.feeds.lists_kept c.add.ensures.counts.receipts_kept (omega (arith, sealed_more old.log c.add.«new».self _ c.add.ensures.more)) k

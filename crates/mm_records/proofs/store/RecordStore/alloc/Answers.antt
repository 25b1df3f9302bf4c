use Rattle.std.proofs.Common.{◌≡◌, ℕ, length, subst}
use Rattle.std.proofs.lemmas.Result.{on_ok_weaker}
use Rattle.mm_links.specs.Links.{Place}
use Rattle.mm_extents.specs.Changes.{loc}
use Rattle.mm_records.specs.Shape.{Shape}
use Rattle.mm_records.specs.Stands.{Stands}
use Rattle.mm_records.specs.Map.{name_at}
use Rattle.mm_records.specs.Asking.{NoFit}
use Rattle.mm_records.specs.Allocating.{IsAllocated, PaysRoom}
use Rattle.mm_records.proofs.Askings.{asked_once, too_long}
use Rattle.mm_records.proofs.Allocs.{holds_of}
use Rattle.mm_records.proofs.store.RecordStore.alloc.Goals as goal

pub returns-then-payload-gt-MAX_PAYLOAD_LEN-clause-full : goal.returns-then-payload-gt-MAX_PAYLOAD_LEN-clause-full
returns-then-payload-gt-MAX_PAYLOAD_LEN-clause-full c = λ e free s r st node asked. too_long c.args.draft.now.image free s (name_at c.args.draft.now.image c.args.self.now.node) c.args.request (length c.args.payload.now) r st asked c.requires.bucket c.if-payload-gt-MAX_PAYLOAD_LEN.true

pub returns-clause-ok : goal.returns-clause-ok
returns-clause-ok c = holds_of c.add_record.result c.add_record.ensures.ok (λ at f free s r st node asked.
    subst (λ (n : ℕ). (t : Shape) × (Stands c.add_record.«new».draft.image free t × ((p : Place) × ((at ≡ loc p) × IsAllocated c.args.draft.now.image s t free (name_at c.args.draft.now.image c.args.self.now.node) p n c.args.payload.now))))
    (asked_once c.args.request (length c.args.payload.now) c.asked_len.result r c.asked_len.ensures.is asked) (f free s st node))

pub returns-clause-full : goal.returns-clause-full
returns-clause-full c = λ e free s r st node asked.
    subst (λ (n : ℕ). NoFit c.args.draft.now.image s free (name_at c.args.draft.now.image c.args.self.now.node) n)
    (asked_once c.args.request (length c.args.payload.now) c.asked_len.result r c.asked_len.ensures.is asked) (c.add_record.ensures.full e free s st node)

pub returns-clause-space : goal.returns-clause-space
returns-clause-space c = on_ok_weaker c.add_record.result (λ f free s r st node asked none. f free s st node
    (subst (λ (n : ℕ). NoFit c.args.draft.now.image s free (name_at c.args.draft.now.image c.args.self.now.node) n) (asked_once c.args.request (length c.args.payload.now) r c.asked_len.result asked c.asked_len.ensures.is) none)) c.add_record.ensures.space

pub returns-clause-room : goal.returns-clause-room
returns-clause-room c = on_ok_weaker c.add_record.result (λ f free s r st node asked.
    subst (λ (n : ℕ). PaysRoom s (name_at c.args.draft.now.image c.args.self.now.node) n c.args.draft.now.image c.add_record.«new».draft.image)
    (asked_once c.args.request (length c.args.payload.now) c.asked_len.result r c.asked_len.ensures.is asked) (f free s st node)) c.add_record.ensures.room

pub returns-then-payload-gt-MAX_PAYLOAD_LEN-clause-left : goal.returns-then-payload-gt-MAX_PAYLOAD_LEN-clause-left
returns-then-payload-gt-MAX_PAYLOAD_LEN-clause-left c = λ e free s r st node asked.
    (st, too_long c.args.draft.now.image free s (name_at c.args.draft.now.image c.args.self.now.node) c.args.request (length c.args.payload.now) r st asked c.requires.bucket c.if-payload-gt-MAX_PAYLOAD_LEN.true)

pub returns-clause-left : goal.returns-clause-left
returns-clause-left c = λ e free s r st node asked.
    let l = c.add_record.ensures.left e free s st node in (
      l.0,
      subst (λ (n : ℕ). NoFit c.add_record.«new».draft.image s free (name_at c.args.draft.now.image c.args.self.now.node) n) (asked_once c.args.request (length c.args.payload.now) c.asked_len.result r c.asked_len.ensures.is asked) l.1,
    )

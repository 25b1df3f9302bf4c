use Rattle.std.proofs.Common.{refl, ap, arith, length, get_or, ◌∙◌, ℕ, List}
use Rattle.mm_jfiles.specs.Files.{Files}
use Rattle.mm_durable.proofs.Begins.{begins, none_flushed}
use Rattle.mm_durable.proofs.log.Log.start.Goals as goal

pub returns-clause-begun : goal.returns-clause-begun
returns-clause-begun c = record { names_are = refl; last_is = refl; none = omega (arith, ap length c.new.ensures.items) }

pub returns-clause-kept : goal.returns-clause-kept
returns-clause-kept c = begins _ c.args.last (record {
  first = ap (λ (f : Files). f.first) c.start.ensures;
  lasts = ap (λ (f : Files). f.lasts) c.start.ensures;
  end = ap (λ (f : Files). f.end) c.start.ensures;
  last = refl;
  sections = c.new.ensures.items;
  dropped = refl;
  receipts = c.new-2.ensures.items;
  flushed = λ d. ap (λ (l : List ℕ). get_or l d 0) (c.in_ok-flushed.ensures.items_if_clones_equal (λ y e. e)) ∙ none_flushed _ d;
  floor = refl;
  mark = refl;
})

pub returns-clause-journal : goal.returns-clause-journal
returns-clause-journal c = c.start.ensures

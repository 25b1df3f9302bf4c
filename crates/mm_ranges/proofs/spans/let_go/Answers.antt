use Rattle.std.proofs.Common.{◌≡◌, ◌∙◌, ap, false, List, Some, subst, sym, refl, inl, inr}
use Rattle.std.proofs.lemmas.Bool.{cases_Bool, false≢true}
use Rattle.mm_ranges.specs.Room.{is_room}
use Rattle.mm_ranges.specs.Spans.{Entry, entry_of, span_of}
use Rattle.mm_ranges.specs.declared.spans.Span.{Span}
use Rattle.mm_ranges.proofs.Giving.{none_there, other_there, room_is}
use Rattle.mm_ranges.proofs.Kept.{cut_at}
use Rattle.mm_ranges.proofs.Steps.{LetGo, let_go}
use Rattle.mm_ranges.proofs.spans.let_go.Goals as goal

is_let_go : (c : goal.After-remove) → LetGo c.args.starts.now.entries c.args.file c.args.at c.remove.«new».self.entries
is_let_go c = subst (λ (fs : List Entry). LetGo c.args.starts.now.entries c.args.file c.args.at fs) (sym c.remove.ensures.entries)
    (let_go c.args.starts.now.entries c.args.file c.args.at c.requires (sym c.in-Some.ensures ∙ ap (λ (s : Span). Some (entry_of s)) (c.if-is_empty_at.ensures.0 refl)))

pub returns-then-is_empty_at-clause-kept : goal.returns-then-is_empty_at-clause-kept
returns-then-is_empty_at-clause-kept c = (is_let_go c).kept

pub returns-then-is_empty_at-clause-spans : goal.returns-then-is_empty_at-clause-spans
returns-then-is_empty_at-clause-spans c = (is_let_go c).spans

pub returns-then-is_empty_at-clause-places : goal.returns-then-is_empty_at-clause-places
returns-then-is_empty_at-clause-places c = (is_let_go c).places_stay

pub returns-then-is_empty_at-clause-ranges : goal.returns-then-is_empty_at-clause-ranges
returns-then-is_empty_at-clause-ranges c = (is_let_go c).ranges_stay

pub returns-in_default-clause-spans : goal.returns-in_default-clause-spans
returns-in_default-clause-spans c = sym (none_there c.args.starts.now.entries c.args.file c.args.at c.requires (sym c.in_default.ensures))

pub returns-else-is_empty_at-clause-spans : goal.returns-else-is_empty_at-clause-spans
returns-else-is_empty_at-clause-spans c =
    let e : Entry = entry_of c.in-Some.span in
    let order = (cut_at c.args.starts.now.entries e (c.args.file, c.args.at, 0) c.requires (sym c.in-Some.ensures)).forward in
    let other : is_room c.args.file c.args.at (span_of e) ≡ false = elim (cases_Bool (is_room c.args.file c.args.at (span_of e))) [
      | inl room ↦ absurd (false≢true (c.if-is_empty_at.ensures.1 (room_is c.in-Some.span c.args.file c.args.at order room)))
      | inr other ↦ other
    ] in
    sym (other_there c.args.starts.now.entries e c.args.file c.args.at c.requires (sym c.in-Some.ensures) other)

use Rattle.std.proofs.Common.{◌≡◌, ℕ, List, [], Option, length, refl, sym, ◌∙◌, ap, subst, arith}
use Rattle.std.specs.Prelude.{is_some, unwrap_or}
use Rattle.std.proofs.lemmas.List.{length-replicate}
use Rattle.mm_ranges.specs.Overlay.{laid, bytes_at}
use Rattle.mm_views.specs.State.{State}
use Rattle.mm_recover.specs.Loading.{IsQuiet}
use Rattle.mm_recover.proofs.Loads.{most_small, takes_bytes, same_bytes, zeros_there}
use Rattle.mm_recover.proofs.loading.put_in.Goals as goal

pub overflow_cast-len : goal.overflow_cast-len
overflow_cast-len c = omega (arith, c.requires.short, most_small c.args.file)

pub fill-requires-clause-there : goal.fill-requires-clause-there
fill-requires-clause-there c = ap (λ (o : Option (List ℕ)). is_some o) (zeros_there c.args.file (length c.args.bytes.now) c.args.views.now.private c.load.new.self.private (ap (λ (s : State). s.private) c.in_ok-load.ensures.ok))

pub fill-requires-clause-inside : goal.fill-requires-clause-inside
fill-requires-clause-inside c =
    let len = length c.args.bytes.now in
    let there = zeros_there c.args.file len c.args.views.now.private c.load.new.self.private (ap (λ (s : State). s.private) c.in_ok-load.ensures.ok) in
    let size : length (bytes_at c.load.new.self.private c.args.file) ≡ len = ap (λ (o : Option (List ℕ)). length (unwrap_or o [])) there ∙ length-replicate len 0 in
    omega (arith, size)

pub returns-clause-ok : goal.returns-clause-ok
returns-clause-ok c =
    let file = c.args.file in
    let bytes = c.args.bytes.now in
    takes_bytes file (length bytes) bytes c.args.views.now c.fill.new.self refl c.requires.short
    (ap (λ (s : State). s.shared) c.fill.ensures.filled ∙ ap (λ (s : State). laid file 0 bytes s.shared) c.in_ok-load.ensures.ok)

pub returns-clause-quiet : goal.returns-clause-quiet
returns-clause-quiet c =
    let file = c.args.file in
    let bytes = c.args.bytes.now in
    record {
      same = same_bytes file (length bytes) bytes c.args.views.now c.fill.new.self
          (ap (λ (s : State). s.shared) c.fill.ensures.filled ∙ ap (λ (s : State). laid file 0 bytes s.shared) c.in_ok-load.ensures.ok)
          (ap (λ (s : State). s.private) c.fill.ensures.filled ∙ ap (λ (s : State). laid file 0 bytes s.private) c.in_ok-load.ensures.ok) c.requires.quiet.same;
      made = ap (λ (s : State). s.made) c.fill.ensures.filled ∙ ap (λ (s : State). s.made) c.in_ok-load.ensures.ok ∙ c.requires.quiet.made;
      opened = ap (λ (s : State). s.opened) c.fill.ensures.filled ∙ ap (λ (s : State). s.opened) c.in_ok-load.ensures.ok ∙ c.requires.quiet.opened;
      closed = ap (λ (s : State). s.closed) c.fill.ensures.filled ∙ ap (λ (s : State). s.closed) c.in_ok-load.ensures.ok ∙ c.requires.quiet.closed;
    }

pub load-requires : goal.load-requires
load-requires c = record { file = c.requires.file; len = c.requires.short; made = c.requires.quiet.made; opened = c.requires.quiet.opened; closed = c.requires.quiet.closed }

pub returns-in_err-load-clause-quiet : goal.returns-in_err-load-clause-quiet
returns-in_err-load-clause-quiet c = subst IsQuiet (sym c.in_err-load.ensures.err) c.requires.quiet

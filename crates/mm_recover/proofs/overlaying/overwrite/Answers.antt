use Rattle.std.proofs.Common.{rules, arith, ◌≡◌, ◌+◌, ◌-◌, ◌++◌, ℕ, max, take, drop, length, ◌∙◌, ap}
use Rattle.std.proofs.lemmas.Grind.{common_steps}
use Rattle.std.specs.Prelude.{replicate}
use Rattle.mm_bytes.specs.Files.{resized}
use Rattle.mm_recover.proofs.LaidOver.{put_over}
use Rattle.mm_recover.proofs.overlaying.overwrite.Goals as goal

pub returns : goal.returns
returns c =
    let old = c.args.file.now.items in
    let size : c.args.file.now.len ≡ length old = search rules in
    let long_enough : c.max-len.result ≡ max (length old) (c.args.at + length c.args.bytes.now) = search rules in
    let sized : c.deref_mut.result.now ≡ resized c.max-len.result old =
    c.deref_mut.ensures.value ∙ c.in_ok-resize.ensures.items ∙ ap (λ (n : ℕ). take c.max-len.result old ++ replicate (c.max-len.result - n) 0) size in
    let whole : take c.resize.new.self.len (c.put.new.old ++ drop (length c.put.new.old) c.resize.new.self.items) ≡ c.put.new.old = grind (arith, common_steps) in
    whole ∙ c.put.ensures ∙ rw sized (put_over c.args.at c.args.bytes.now old c.max-len.result long_enough)

use Rattle.std.proofs.Common.{◌∙◌, ℕ, ◌*◌, ◌^◌, ◌%◌, ap, arith}
use Rattle.std.proofs.Math.Nat.{mod-eq_of_lt}
use Rattle.mm_extents.specs.Files as files
use Rattle.mm_extents.proofs.FileLaws.{file_len_most}
use Rattle.mm_extents.proofs.made_files.file_len.Goals as goal

pub returns-clause-is : goal.returns-clause-is
returns-clause-is c =
    let most = file_len_most c.args.file in
    ap (λ (m : ℕ). (1048576 * 2 ^ m) % 4294967296) c.min.ensures ∙ mod-eq_of_lt {n = files.file_len c.args.file} {m = 4294967296} (omega (arith, most))

pub returns-clause-most : goal.returns-clause-most
returns-clause-most c =
    let most = file_len_most c.args.file in
    let e = ap (λ (m : ℕ). (1048576 * 2 ^ m) % 4294967296) c.min.ensures ∙ mod-eq_of_lt {n = files.file_len c.args.file} {m = 4294967296} (omega (arith, most)) in
    omega (arith, most, e)

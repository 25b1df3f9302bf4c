use Rattle.std.proofs.Common.{◌≡◌, length, ◌∙◌, sym, string_bytes, arith}
use Rattle.std.proofs.lemmas.Bool.Decides.{Decides-eqb}
use Rattle.std.proofs.lemmas.Slice.Eq.{slice_eq-Decides}
use Rattle.mm_main.proofs.WordsSteps.{command_is, is_command}
use Rattle.mm_main.proofs.words.is_command.Goals as goal

pub returns-in-len2 : goal.returns-in-len2
returns-in-len2 c =
    let two : length c.args.words.now ≡ 2 = omega arith in
    let same = slice_eq-Decides Decides-eqb c.as_str.result.now _ c.eq.result c.eq.ensures in (
      λ yes. command_is string_bytes c.args.name.now c.args.words.now c.command-item.result two c.command-item.is (sym c.as_str.ensures.value ∙ same.0 yes),
      λ has. same.1 (c.as_str.ensures.value ∙ is_command string_bytes c.args.name.now c.args.words.now c.command-item.result c.command-item.is has),
    )

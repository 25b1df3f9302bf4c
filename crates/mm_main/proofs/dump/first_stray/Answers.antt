use Rattle.std.proofs.Common.{refl, sym, ◌∙◌, subst, string_bytes, ◌≢◌, ℕ, List, map}
use Rattle.std.proofs.lemmas.Bool.Decides.{Decides-eqb}
use Rattle.std.proofs.lemmas.Slice.Eq.{slice_eq-Decides}
use Rattle.mm_main.specs.Dumps.{IsStray}
use Rattle.mm_main.specs.Stored.{file_name}
use Rattle.mm_main.proofs.DumpSteps.{passed_own, met_stray, is_other, is_same}
use Rattle.mm_main.proofs.dump.first_stray.Goals as goal

pub returns-then-ne : goal.returns-then-ne
returns-then-ne c =
    let decides = slice_eq-Decides Decides-eqb c.as_str.result.now file_name _ refl in
    let other : string_bytes c.name-item.result ≢ file_name = subst (λ (name : List ℕ). name ≢ file_name) c.as_str.ensures.value (is_other _ _ c.ne.ensures c.if-ne.true decides.1) in
    let stray = met_stray string_bytes c.args.names.now c.loop-name.name-index c.name-item.result c.loop-name-test.true c.name-item.is other c.loop-name.invariant in
    subst (λ (name : List ℕ). IsStray name (map string_bytes c.args.names.now)) (sym c.as_str-then-ne.ensures.value) stray

pub loop-name-preserved : goal.loop-name-preserved
loop-name-preserved c =
    let decides = slice_eq-Decides Decides-eqb c.as_str.result.now file_name _ refl in
    let own = sym c.as_str.ensures.value ∙ is_same _ _ c.ne.ensures c.if-ne.false decides.0 in
    passed_own string_bytes c.args.names.now c.loop-name.name-index c.name-item.result c.loop-name-test.true c.name-item.is own c.loop-name.invariant

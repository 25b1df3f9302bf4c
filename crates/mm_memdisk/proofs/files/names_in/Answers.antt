use Rattle.std.proofs.Common.{◌≡◌, List, [], ◌∷◌, ◌++◌, ℕ, String, map, string_bytes, sym, ◌∙◌, ap, append-nil, append_assoc, rules}
use Rattle.std.specs.declared.alloc.Global.{Global}
use Rattle.std.proofs.lemmas.List.{map-append}
use Rattle.mm_memdisk.proofs.Names.{same_names}
use Rattle.mm_memdisk.proofs.files.names_in.Goals as goal

abbrev bytes_of : List (String Global) → List (List ℕ)
bytes_of = map string_bytes

next_name : (names new coming rest : List (String Global)) (name copy : String Global) → new ≡ names ++ copy ∷ [] → coming ≡ name ∷ rest → string_bytes copy ≡ string_bytes name → bytes_of new ++ bytes_of rest ≡ bytes_of names ++ bytes_of coming
next_name names new coming rest name copy more next same =
    ap (λ (l : List (String Global)). bytes_of l ++ bytes_of rest) more ∙ ap (λ (l : List (List ℕ)). l ++ bytes_of rest) (map-append string_bytes names (copy ∷ [])) ∙ append_assoc (bytes_of names) (string_bytes copy ∷ []) (bytes_of rest)
    ∙ ap (λ (b : List ℕ). bytes_of names ++ b ∷ bytes_of rest) same ∙ ap (λ (l : List (String Global)). bytes_of names ++ bytes_of l) (sym next)

pub loop-name-preserved : goal.loop-name-preserved
loop-name-preserved c =
    let same : string_bytes c.in_ok-clone.field-0 ≡ string_bytes c.in-Some.name.now = search rules in
    let next : c.loop-name.name-iterator ≡ c.in-Some.name.now ∷ c.next.new.self = c.in-Some.ensures.steps in
    next_name c.loop-name.names.items c.push.new.self.items c.loop-name.name-iterator c.next.new.self c.in-Some.name.now c.in_ok-clone.field-0 c.in_ok-push.ensures.items next same ∙ c.loop-name.invariant

pub loop-name-init : goal.loop-name-init
loop-name-init c = ap (λ (l : List (String Global)). bytes_of l ++ bytes_of c.into_iter-name-iterator.result) c.new-names.ensures.items ∙ ap bytes_of c.into_iter-name-iterator.ensures.into_iter_gives ∙ ap bytes_of c.keys-name-items.ensures.rest

pub returns : goal.returns
returns c = λ image reads.
    sym (append-nil (bytes_of c.loop-name.names.items)) ∙ ap (λ (l : List (String Global)). bytes_of c.loop-name.names.items ++ bytes_of l) (sym c.in-None.ensures.steps.0) ∙ c.loop-name.invariant ∙ same_names c.args.files.now image c.keys-name-items.ensures.ordered reads

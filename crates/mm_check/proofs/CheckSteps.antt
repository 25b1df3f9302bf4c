-- The phases in a row: what is answered is what was found.
use Rattle.std.proofs.Common.{◌≡◌, ℕ, suc, List, [], ◌∷◌, length, map, Option, Some, None, Result, Ok, Err, refl, sym, ◌∙◌, ap, subst}
use Rattle.std.specs.Result.{OnOk}
use Rattle.mm_ranges.specs.Overlay.{Image}
use Rattle.mm_links.specs.Links.{Place}
use Rattle.mm_model.specs.declared.finding.Finding.{Finding}
use Rattle.mm_model.specs.declared.finding.What.{What}
use Rattle.mm_model.specs.declared.finding.CheckFault.{CheckFault}
use Rattle.mm_model.specs.declared.finding.CheckFault.TheVariants.{Found, NoMemory}
use Rattle.mm_walk.specs.declared.walk.Broken.{Broken}
use Rattle.mm_walk.specs.declared.walk.Broken.TheVariants as broken
use Rattle.mm_walk.specs.Walk.{IfBroken}
use Rattle.mm_check.specs.Findings.{joined, nodes_in, extent_chains, Clear5}
use Rattle.mm_check.specs.Phases.{node_chain}
use Rattle.mm_check.specs.TheCheck.{IsFinding, IfFound, Finds, IsFault, IsOutcome}
use Rattle.mm_check.proofs.CheckLaws.{whole_lengths}

-- what was found at a place is the finding
pub found_finds : (U : Type 0) (d : List ℕ) (image : Image) (w : What) (at : Place) (f : CheckFault) → f ≡ Found (record { file = at.0; at = at.1; what = w }) → IsFinding d image w at → Finds {T = U} d image (Err f)
found_finds U d image w at f e h = subst (λ (x : CheckFault). Finds {T = U} d image (Err x)) (sym e) h

pub memory_finds : (U : Type 0) (d : List ℕ) (image : Image) (f : CheckFault) → f ≡ NoMemory → Finds {T = U} d image (Err f)
memory_finds U d image f e = subst (λ (x : CheckFault). Finds {T = U} d image (Err x)) (sym e) tt

-- a chain that breaks is a finding where it does
pub broken_finds : (T U : Type 0) (d : List ℕ) (image : Image) (w : What) (P : Place → Type 0) (b : Broken) (f : CheckFault) → IsFault b w f → IfBroken {T = T} (Err b) P → ((at : Place) → P at → IsFinding d image w at) → Finds {T = U} d image (Err f)
broken_finds T U d image w P (broken.At at) f e h g = found_finds U d image w at f e (g at h)
broken_finds T U d image w P broken.NoMemory f e h g = memory_finds U d image f e

-- what is found is found by the next call too
pub finds_again : (T U : Type 0) (d : List ℕ) (image : Image) (f : CheckFault) → Finds {T = T} d image (Err f) → Finds {T = U} d image (Err f)
finds_again T U d image (Found x) h = h
finds_again T U d image NoMemory h = tt

-- what holds of a finding, where any is found, and by the next call too
pub found_all : (U : Type 0) (f : CheckFault) (P : Type 0) → P → IfFound {T = U} (Err f) (λ x. P)
found_all U (Found x) P h = h
found_all U NoMemory P h = tt

pub found_again : (T U : Type 0) (f : CheckFault) (P : Finding → Type 0) → IfFound {T = T} (Err f) P → IfFound {T = U} (Err f) P
found_again T U (Found x) P h = h
found_again T U NoMemory P h = tt

pub broken_mapped : (T U : Type 0) (b : Broken) (P Q : Place → Type 0) → ((at : Place) → P at → Q at) → IfBroken {T = T} (Err b) P → IfBroken {T = U} (Err b) Q
broken_mapped T U (broken.At at) P Q f h = f at h
broken_mapped T U broken.NoMemory P Q f h = tt

-- the outcome of a phase that finds a place or none
pub outcome_clear : (P : Type 0) (at : Option Place) (w : What) (r : Result (Unit {0}) CheckFault) → IsOutcome at w r → (at ≡ None → P) → OnOk r P
outcome_clear P None w r e f = subst (λ (x : Result (Unit {0}) CheckFault). OnOk x P) (sym e) (f refl)
outcome_clear P (Some p) w r e f = subst (λ (x : Result (Unit {0}) CheckFault). OnOk x P) (sym e) tt

pub outcome_finds : (d : List ℕ) (image : Image) (at : Option Place) (w : What) (r : Result (Unit {0}) CheckFault) → IsOutcome at w r → ((p : Place) → at ≡ Some p → IsFinding d image w p) → Finds d image r
outcome_finds d image None w r e f = subst (λ (x : Result (Unit {0}) CheckFault). Finds d image x) (sym e) tt
outcome_finds d image (Some p) w r e f = subst (λ (x : Result (Unit {0}) CheckFault). Finds d image x) (sym e) (f p refl)

-- what holds of all that is answered holds of this
pub on_ok_mapped : {T E : Type 0} (r : Result T E) (P Q : Type 0) → (P → Q) → OnOk r P → OnOk r Q
on_ok_mapped (Ok x) P Q f h = f h
on_ok_mapped (Err x) P Q f h = tt

mapped_length : {X Y : Type 0} (f : X → Y) (xs : List X) → length (map f xs) ≡ length xs
mapped_length f [] = refl
mapped_length f (x ∷ xs) = ap (λ (n : ℕ). suc n) (mapped_length f xs)

-- as many chains as nodes
pub node_lengths : (d : List ℕ) (image : Image) (chains : List (List Place)) → Clear5 d image chains → length (nodes_in image) ≡ length chains
node_lengths d image chains c = sym (mapped_length (node_chain image (joined c.found)) (nodes_in image)) ∙ whole_lengths [] (extent_chains image (joined c.found)) chains c.whole

pub chained_lengths : {V : Type 0} (items : V → List Place) (d : List ℕ) (image : Image) (vs : List V) → Clear5 d image (map items vs) → length (nodes_in image) ≡ length vs
chained_lengths items d image vs c = node_lengths d image (map items vs) c ∙ mapped_length items vs

-- two lists are others
pub at_both : {X Y : Type 0} (P : X → Y → Type 0) (x x' : X) (y y' : Y) → x ≡ x' → y ≡ y' → P x y → P x' y'
at_both P x x' y y' e f h = subst (P x') f (subst (λ z. P z y) e h)

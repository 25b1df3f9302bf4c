-- A draft is its first entry, which may be taken out, and the others.
use Rattle.std.proofs.Common.{◌≡◌, ℕ, Option, Some, None, List, [], ◌∷◌, ◌++◌, max, refl, sym, ap, ◌∙◌, append_assoc, append-nil, arith}
use Rattle.mm_bson.specs.Tree.{Elements, no_elements, depth}
use Rattle.mm_bson.specs.Spelling.{type_byte, value_spelling, elements_spelling, AreElements}
use Rattle.mm_update.specs.declared.draft.Node.{Node}
use Rattle.mm_update.specs.Drafted.{node_tree, entry_on, AreNames}

module _ (name : List ℕ) where
  pub spelling_first : (o : Option Node) (es : Elements) → elements_spelling (entry_on name o es) ≡ elements_spelling (entry_on name o no_elements) ++ elements_spelling es
  spelling_first None es = refl
  spelling_first (Some n) es =
      let head : List ℕ = name ++ 0 ∷ [] in
      let v : List ℕ = value_spelling (node_tree n) in
      let rest : List ℕ = elements_spelling es in
      ap (λ (x : List ℕ). type_byte (node_tree n) ∷ x) (ap (λ (x : List ℕ). head ++ (x ++ rest)) (sym (append-nil v)) ∙ sym (append_assoc head (v ++ []) rest))

  pub depth_first : (o : Option Node) (es : Elements) → depth (entry_on name o es) ≡ max (depth (entry_on name o no_elements)) (depth es)
  depth_first None es = omega arith
  depth_first (Some n) es = omega arith

  pub names_first : (o : Option Node) (es : Elements) → AreNames (entry_on name o es) → AreNames (entry_on name o no_elements) × AreNames es
  names_first None es h = (tt, h)
  names_first (Some n) es h = ((h.0, tt), h.1)

  pub sound_first : (o : Option Node) (es : Elements) → AreElements (entry_on name o no_elements) → AreElements es → AreElements (entry_on name o es)
  sound_first None es one h = h
  sound_first (Some n) es one h = (one.0, one.1, h)

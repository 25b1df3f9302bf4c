-- Folds over joined lists.
use Rattle.std.proofs.Common.{◌≡◌, ℕ, List, [], ◌∷◌, ◌++◌, refl, sym, ap, ◌∙◌, append_assoc}
use Rattle.mm_model.specs.declared.action.Entry.{Entry}
use Rattle.mm_model.specs.Database.{Database}
use Rattle.mm_model.specs.After.{after}
use Rattle.std.proofs.lemmas.List.{take-append-drop}
use Rattle.mm_model.specs.History.{Group, entries_of, entries_in, fold_entries, joined, flat, fold, prefix, behind}
use Rattle.mm_model.specs.Laws.{FoldsJoin, FoldsPassPrefixes}

entries-join : (d : ℕ) (groups others : List Group) → entries_in d (groups ++ others) ≡ entries_in d groups ++ entries_in d others
entries-join d [] others = refl
entries-join d (g ∷ groups) others = ap (λ es. entries_of d g ++ es) (entries-join d groups others) ∙ sym (append_assoc (entries_of d g) (entries_in d groups) (entries_in d others))

fold-join : (name : List ℕ) (nodes : ℕ) (db : Database) (es fs : List Entry) → fold_entries name nodes db (es ++ fs) ≡ fold_entries name nodes (fold_entries name nodes db es) fs
fold-join name nodes db [] fs = refl
fold-join name nodes db (e ∷ es) fs = fold-join name nodes (after name nodes db e.command).1 es fs

pub folds_join : FoldsJoin
folds_join name nodes d db groups others =
    ap (fold_entries name nodes db) (entries-join d groups others) ∙ fold-join name nodes db (entries_in d groups) (entries_in d others)

flat-join : (groups others : List Group) → flat (groups ++ others) ≡ flat groups ++ flat others
flat-join [] others = refl
flat-join (g ∷ groups) others = ap (λ es. joined g ++ es) (flat-join groups others) ∙ sym (append_assoc (joined g) (flat groups) (flat others))

pub folds_pass_prefixes : FoldsPassPrefixes
folds_pass_prefixes name nodes d db k groups =
    let whole : prefix k groups ++ behind k groups ≡ groups = take-append-drop k groups in (
      ap flat (sym whole) ∙ flat-join (prefix k groups) (behind k groups),
      ap (fold name nodes d db) (sym whole) ∙ folds_join name nodes d db (prefix k groups) (behind k groups),
    )

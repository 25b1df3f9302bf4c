-- Histories: groups of entries, database by database.
use Rattle.std.specs.Prelude.{ℕ, zero, suc, List, [], ◌∷◌, ◌++◌, take, drop}
use Rattle.mm_model.specs.declared.action.Entry.{Entry}
use Rattle.mm_model.specs.Database.{Database}
use Rattle.mm_model.specs.After.{after}

-- the entries of a group, for each database by number
abbrev pub Group : Type 0
Group = List (List Entry)

-- the entries of one database in a group; none where the group has no list for it
abbrev pub entries_of : ℕ → Group → List Entry
entries_of d [] = []
entries_of zero (es ∷ others) = es
entries_of (suc d) (es ∷ others) = entries_of d others

-- the entries of one database in a list of groups, in order
abbrev pub entries_in : ℕ → List Group → List Entry
entries_in d [] = []
entries_in d (g ∷ groups) = entries_of d g ++ entries_in d groups

abbrev pub joined : Group → List Entry
joined [] = []
joined (es ∷ others) = es ++ joined others

-- the flat history: groups in order, then databases by number, then entries
abbrev pub flat : List Group → List Entry
flat [] = []
flat (g ∷ groups) = joined g ++ flat groups

-- the database after these entries
abbrev pub fold_entries : List ℕ → ℕ → Database → List Entry → Database
fold_entries name nodes db [] = db
fold_entries name nodes db (e ∷ es) = fold_entries name nodes (after name nodes db e.command).1 es

-- the database of number d after the groups
abbrev pub fold : List ℕ → ℕ → ℕ → Database → List Group → Database
fold name nodes d db groups = fold_entries name nodes db (entries_in d groups)

-- a prefix of a history is by whole groups: its first k, or all where there are no more
abbrev pub prefix : ℕ → List Group → List Group
prefix k groups = take k groups

-- the groups behind that prefix
abbrev pub behind : ℕ → List Group → List Group
behind k groups = drop k groups

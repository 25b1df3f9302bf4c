-- What a counter knows and reports.
use Rattle.std.specs.Prelude.{ℕ, ◌+◌, ◌-◌, ◌^◌, min, Bool, true, false, List, [], ◌∷◌, ◌++◌, codes}
use Rattle.std.specs.Fmt.{decimal}
use Rattle.mm_model.specs.declared.action.Entry.{Entry}
use Rattle.mm_model.specs.Laws.{is_ok}

-- one more, but no more than fits 64 bits
abbrev pub one_more : ℕ → ℕ
one_more n = min (n + 1) (2 ^ 64 - 1)

-- the entries, those carried out and those refused
abbrev pub counted_as : Bool → List ℕ → List ℕ
counted_as true (entries ∷ ok ∷ refused ∷ []) = one_more entries ∷ one_more ok ∷ refused ∷ []
counted_as false (entries ∷ ok ∷ refused ∷ []) = one_more entries ∷ ok ∷ one_more refused ∷ []
counted_as b counts = counts

abbrev pub counted : List ℕ → Entry → List ℕ
counted counts entry = counted_as (is_ok entry.reply) counts

abbrev pub report_of : List ℕ → List ℕ
report_of (entries ∷ ok ∷ refused ∷ []) = codes "entries " ++ (decimal entries ++ (codes " ok " ++ (decimal ok ++ (codes " refused " ++ decimal refused))))
report_of counts = []

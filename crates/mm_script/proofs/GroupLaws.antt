-- Groups are known by their text: their fates, and the lines of their entries.
use Rattle.std.proofs.Common.{◌≡◌, ℕ, ◌+◌, ◌⊎◌, inl, inr, Bool, true, false, List, [], ◌∷◌, ◌++◌, refl, sym, ap, ◌∙◌, subst, arith, append_assoc, map}
use Rattle.std.specs.Prelude.{codes, flat_map, ◌==◌, ◌||◌, ◌&&◌, nat_le}
use Rattle.std.specs.List.{list_all}
use Rattle.std.specs.Fmt.{decimal}
use Rattle.std.proofs.lemmas.Bool.{or_right, or_left, and_parts, and_from}
use Rattle.std.proofs.lemmas.List.{append_cancel_left}
use Rattle.std.proofs.lemmas.List.Concat.{flat_map-cons}
use Rattle.mm_model.specs.declared.action.Entry.{Entry}
use Rattle.mm_model.specs.History.{Group}
use Rattle.mm_script.specs.declared.groups.Fate.{Fate}
use Rattle.mm_model.specs.declared.action.Action.{Action}
use Rattle.mm_script.specs.declared.groups.Fate.TheVariants.{Synced, NotSynced, NotClosed}
use Rattle.mm_model.specs.WellFormed.{is_word}
use Rattle.mm_script.specs.Groups.{head_text, entry_text, database_text, group_text}
use Rattle.mm_script.specs.Render.{LineEnd, entry_line, lines_in, group_lines, IsU64, AreEntriesOf, IsGroupOf, IsFate, AreGroupsOf, AreWords}
use Rattle.mm_script.proofs.Parts.{Stops, head_is, tail_is, cut_once, is_digit, decimal_digits, number_once}

-- ---- heads

-- neither digit
abbrev pub Edge : List ℕ → Type 0
Edge = Stops is_digit

not_synced_is : (n : ℕ) (t : List ℕ) → head_text n NotSynced ++ t ≡ codes "group " ++ (decimal n ++ (codes " not synced" ++ t))
not_synced_is n t = ap (λ (l : List ℕ). codes "group " ++ l) (append_assoc (decimal n) (codes " not synced") t)

not_closed_is : (n : ℕ) (t : List ℕ) → head_text n NotClosed ++ t ≡ codes "group " ++ (decimal n ++ (codes " not closed" ++ t))
not_closed_is n t = ap (λ (l : List ℕ). codes "group " ++ l) (append_assoc (decimal n) (codes " not closed") t)

synced_is : (n m : ℕ) (t : List ℕ) → head_text n (Synced m) ++ t ≡ codes "section " ++ (decimal n ++ (codes " at " ++ (decimal m ++ t)))
synced_is n m t = ap (λ (l : List ℕ). codes "section " ++ l) (append_assoc (decimal n) (codes " at " ++ decimal m) t)

head_once : (n m : ℕ) (f k : Fate) (t u : List ℕ) → IsU64 n → IsU64 m → IsFate f → IsFate k → Edge t → Edge u → head_text n f ++ t ≡ head_text m k ++ u → (f ≡ k) × (t ≡ u)
head_once n m (Synced p) (Synced q) t u ln lm lp lq st su e =
    let number = number_once n m _ _ ln lm refl refl (append_cancel_left (codes "section ") _ _ (sym (synced_is n p t) ∙ e ∙ synced_is m q u)) in
    let moment = number_once p q t u lp lq st su (append_cancel_left (codes " at ") _ _ number.1) in
    (ap Synced moment.0, moment.1)
head_once n m (Synced p) NotSynced t u ln lm lp lq st su e = absurd (omega (arith, head_is _ _ _ _ e))
head_once n m (Synced p) NotClosed t u ln lm lp lq st su e = absurd (omega (arith, head_is _ _ _ _ e))
head_once n m NotSynced (Synced q) t u ln lm lp lq st su e = absurd (omega (arith, head_is _ _ _ _ e))
head_once n m NotSynced NotSynced t u ln lm lp lq st su e =
    let number = number_once n m _ _ ln lm refl refl (append_cancel_left (codes "group ") _ _ (sym (not_synced_is n t) ∙ e ∙ not_synced_is m u)) in
    (refl, append_cancel_left (codes " not synced") t u number.1)
head_once n m NotSynced NotClosed t u ln lm lp lq st su e =
    let number = number_once n m _ _ ln lm refl refl (append_cancel_left (codes "group ") _ _ (sym (not_synced_is n t) ∙ e ∙ not_closed_is m u)) in
    absurd (omega (arith, head_is _ _ _ _ (append_cancel_left (codes " not ") _ _ number.1)))
head_once n m NotClosed (Synced q) t u ln lm lp lq st su e = absurd (omega (arith, head_is _ _ _ _ e))
head_once n m NotClosed NotSynced t u ln lm lp lq st su e =
    let number = number_once n m _ _ ln lm refl refl (append_cancel_left (codes "group ") _ _ (sym (not_closed_is n t) ∙ e ∙ not_synced_is m u)) in
    absurd (omega (arith, head_is _ _ _ _ (append_cancel_left (codes " not ") _ _ number.1)))
head_once n m NotClosed NotClosed t u ln lm lp lq st su e =
    let number = number_once n m _ _ ln lm refl refl (append_cancel_left (codes "group ") _ _ (sym (not_closed_is n t) ∙ e ∙ not_closed_is m u)) in
    (refl, append_cancel_left (codes " not closed") t u number.1)

-- ---- the lines of a database's entries

digit_is_word : (b : ℕ) → is_digit b ≡ true → is_word b ≡ true
digit_is_word b is =
    or_left ((nat_le 97 b && nat_le b 122) || (nat_le 65 b && nat_le b 90) || (nat_le 48 b && nat_le b 57)) (b == 95)
    (or_right ((nat_le 97 b && nat_le b 122) || (nat_le 65 b && nat_le b 90)) (nat_le 48 b && nat_le b 57) is)

all_words : (ds : List ℕ) → list_all is_digit ds ≡ true → list_all is_word ds ≡ true
all_words [] all = refl
all_words (d ∷ ds) all = let both = and_parts (is_digit d) (list_all is_digit ds) all in and_from (is_word d) (list_all is_word ds) (digit_is_word d both.0) (all_words ds both.1)

-- the line ends here, or another database's name stands here
abbrev OtherName : List ℕ → Type 0
OtherName t = ((more : List ℕ) × (t ≡ 0x0a ∷ more)) ⊎ ((name : List ℕ) × (more : List ℕ) × (t ≡ 0x20 ∷ (name ++ 0x3a ∷ more)) × (list_all is_word name ≡ true))

abbrev other_stops : (t : List ℕ) → OtherName t → Stops is_digit t
other_stops t (inl o) = subst (Stops is_digit) (sym o.1) refl
other_stops t (inr o) = subst (Stops is_digit) (sym o.2) refl

other_ends_word : (t : List ℕ) → OtherName t → Stops is_word t
other_ends_word t (inl o) = subst (Stops is_word) (sym o.1) refl
other_ends_word t (inr o) = subst (Stops is_word) (sym o.2) refl

other_no_colon : (t more : List ℕ) → OtherName t → 0x3a ∷ more ≡ t → ⊥
other_no_colon t more (inl o) e = omega (arith, head_is _ _ _ _ (e ∙ o.1))
other_no_colon t more (inr o) e = omega (arith, head_is _ _ _ _ (e ∙ o.2))

entries_more : (n : ℕ) (ns t : List ℕ) → flat_map entry_text (n ∷ ns) ++ t ≡ 0x20 ∷ (decimal n ++ (flat_map entry_text ns ++ t))
entries_more n ns t = ap (λ (l : List ℕ). l ++ t) (flat_map-cons entry_text n ns) ∙ append_assoc (entry_text n) (flat_map entry_text ns) t

-- behind a line's number stands a space, or the end of the line
entries_stop : (p : ℕ → Bool) (ns t : List ℕ) → p 0x20 ≡ false → Stops p t → Stops p (flat_map entry_text ns ++ t)
entries_stop p [] t space st = st
entries_stop p (n ∷ ns) t space st = subst (Stops p) (sym (entries_more n ns t)) space

no_colon : (ns t more : List ℕ) → OtherName t → 0x3a ∷ more ≡ flat_map entry_text ns ++ t → ⊥
no_colon [] t more o e = other_no_colon t more o e
no_colon (n ∷ ns) t more o e = omega (arith, head_is _ _ _ _ (e ∙ entries_more n ns t))

-- a database's name is no line's number
no_number : (n : ℕ) (ns t u : List ℕ) → IsU64 n → OtherName t → OtherName u → t ≡ flat_map entry_text (n ∷ ns) ++ u → ⊥
no_number n ns t u lt (inl o) v e = omega (arith, head_is _ _ _ _ (sym o.1 ∙ e ∙ entries_more n ns u))
no_number n ns t u lt (inr o) v e =
    let cut = cut_once is_word o.0 (decimal n) (0x3a ∷ o.1) (flat_map entry_text ns ++ u) o.3 (all_words (decimal n) (decimal_digits n lt)) refl
    (entries_stop is_word ns u refl (other_ends_word u v)) (tail_is _ _ _ _ (sym o.2 ∙ e ∙ entries_more n ns u)) in
    no_colon ns u o.1 v cut.1

abbrev AreU64 : List ℕ → Type 0
AreU64 [] = Unit {0}
AreU64 (n ∷ ns) = IsU64 n × AreU64 ns

entries_once : (ns ms t u : List ℕ) → AreU64 ns → AreU64 ms → OtherName t → OtherName u → flat_map entry_text ns ++ t ≡ flat_map entry_text ms ++ u → (ns ≡ ms) × (t ≡ u)
entries_once [] [] t u ln lm ot ou e = (refl, e)
entries_once [] (m ∷ ms) t u ln lm ot ou e = absurd (no_number m ms t u lm.0 ot ou e)
entries_once (n ∷ ns) [] t u ln lm ot ou e = absurd (no_number n ns u t ln.0 ou ot (sym e))
entries_once (n ∷ ns) (m ∷ ms) t u ln lm ot ou e =
    let first = number_once n m (flat_map entry_text ns ++ t) (flat_map entry_text ms ++ u) ln.0 lm.0 (entries_stop is_digit ns t refl (other_stops t ot)) (entries_stop is_digit ms u refl (other_stops u ou))
    (tail_is _ _ _ _ (sym (entries_more n ns t) ∙ e ∙ entries_more m ms u)) in
    let later = entries_once ns ms t u ln.1 lm.1 ot ou first.1 in
    (ap (λ (x : ℕ). x ∷ ns) first.0 ∙ ap (λ (xs : List ℕ). m ∷ xs) later.0, later.1)

-- ---- the databases of a group

abbrev pub numbers_in : Group → List (List ℕ)
numbers_in g = map (map entry_line) g

databases_more : (d : List ℕ × List ℕ) (ds : List (List ℕ × List ℕ)) (t : List ℕ)
    → flat_map database_text (d ∷ ds) ++ t ≡ 0x20 ∷ (d.0 ++ 0x3a ∷ (flat_map entry_text d.1 ++ (flat_map database_text ds ++ t)))
databases_more d ds t =
    ap (λ (l : List ℕ). l ++ t) (flat_map-cons database_text d ds) ∙ append_assoc (database_text d) (flat_map database_text ds) t
    ∙ ap (λ (l : List ℕ). 0x20 ∷ l) (append_assoc d.0 (0x3a ∷ flat_map entry_text d.1) (flat_map database_text ds ++ t)
    ∙ ap (λ (l : List ℕ). d.0 ++ 0x3a ∷ l) refl)

entries_short : (script : List Action) (ends : List LineEnd) (db : ℕ) (es : List Entry) → AreEntriesOf script ends db es → AreU64 (map entry_line es)
entries_short script ends db [] i = tt
entries_short script ends db (e ∷ es) i = (i.0.number, entries_short script ends db es i.1)

others_named : (script : List Action) (ends : List LineEnd) (db : ℕ) (names : List (List ℕ)) (g : Group) (t : List ℕ) → AreWords names → IsGroupOf script ends db names g
    → OtherName (flat_map database_text (lines_in names g) ++ 0x0a ∷ t)
others_named script ends db [] [] t w i = inl (t, refl)
others_named script ends db [] (es ∷ g) t w i = absurd i
others_named script ends db (name ∷ names) [] t w i = absurd i
others_named script ends db (name ∷ names) (es ∷ g) t w i = inr (name, _, databases_more (name, map entry_line es) (lines_in names g) (0x0a ∷ t), w.0)

databases_once : (script : List Action) (one other : List LineEnd) (db : ℕ) (names : List (List ℕ)) (g h : Group) (t u : List ℕ) → AreWords names
    → IsGroupOf script one db names g → IsGroupOf script other db names h
    → flat_map database_text (lines_in names g) ++ 0x0a ∷ t ≡ flat_map database_text (lines_in names h) ++ 0x0a ∷ u → (numbers_in g ≡ numbers_in h) × (t ≡ u)
databases_once script one other db [] [] [] t u w i k e = (refl, tail_is _ _ _ _ e)
databases_once script one other db [] [] (fs ∷ h) t u w i k e = absurd k
databases_once script one other db [] (es ∷ g) h t u w i k e = absurd i
databases_once script one other db (name ∷ names) [] h t u w i k e = absurd i
databases_once script one other db (name ∷ names) (es ∷ g) [] t u w i k e = absurd k
databases_once script one other db (name ∷ names) (es ∷ g) (fs ∷ h) t u w i k e =
    let whole = tail_is _ _ _ _ (append_cancel_left name _ _ (tail_is _ _ _ _
    (sym (databases_more (name, map entry_line es) (lines_in names g) (0x0a ∷ t)) ∙ e ∙ databases_more (name, map entry_line fs) (lines_in names h) (0x0a ∷ u)))) in
    let first = entries_once (map entry_line es) (map entry_line fs) (flat_map database_text (lines_in names g) ++ 0x0a ∷ t) (flat_map database_text (lines_in names h) ++ 0x0a ∷ u)
    (entries_short script one db es i.0) (entries_short script other db fs k.0) (others_named script one (db + 1) names g t w.1 i.1) (others_named script other (db + 1) names h u w.1 k.1) whole in
    let later = databases_once script one other (db + 1) names g h t u w.1 i.1 k.1 first.1 in
    (ap (λ (x : List ℕ). x ∷ numbers_in g) first.0 ∙ ap (λ (xs : List (List ℕ)). map entry_line fs ∷ xs) later.0, later.1)

-- ---- groups

databases_stop : (names : List (List ℕ)) (g : Group) (t : List ℕ) → Edge (flat_map database_text (lines_in names g) ++ 0x0a ∷ t)
databases_stop [] g t = refl
databases_stop (name ∷ names) [] t = subst Edge (sym (databases_more (name, []) (lines_in names []) (0x0a ∷ t))) refl
databases_stop (name ∷ names) (es ∷ g) t = subst Edge (sym (databases_more (name, map entry_line es) (lines_in names g) (0x0a ∷ t))) refl

group_is : (n : ℕ) (f : Fate) (ds : List (List ℕ × List ℕ)) (t : List ℕ) → group_text n f ds ++ t ≡ head_text n f ++ (flat_map database_text ds ++ 0x0a ∷ t)
group_is n f ds t = append_assoc (head_text n f) (flat_map database_text ds ++ codes "\n") t ∙ ap (λ (l : List ℕ). head_text n f ++ l) (append_assoc (flat_map database_text ds) (codes "\n") t)

group_once : (script : List Action) (one other : List LineEnd) (names : List (List ℕ)) (n m : ℕ) (f k : Fate) (g h : Group) (t u : List ℕ) → AreWords names → IsU64 n → IsU64 m → IsFate f → IsFate k
    → IsGroupOf script one 0 names g → IsGroupOf script other 0 names h → group_text n f (lines_in names g) ++ t ≡ group_text m k (lines_in names h) ++ u
    → (f ≡ k) × (numbers_in g ≡ numbers_in h) × (t ≡ u)
group_once script one other names n m f k g h t u w ln lm lf lk i j e =
    let head = head_once n m f k _ _ ln lm lf lk (databases_stop names g t) (databases_stop names h u) (sym (group_is n f (lines_in names g) t) ∙ e ∙ group_is m k (lines_in names h) u) in
    let inside = databases_once script one other 0 names g h t u w i j head.1 in
    (head.0, inside.0, inside.1)

-- ---- all groups

-- no group's line begins here
abbrev pub begins_group : ℕ → Bool
begins_group b = b == 0x73 || b == 0x67

group_begins : (n : ℕ) (f : Fate) (ds : List (List ℕ × List ℕ)) (t u : List ℕ) → Stops begins_group u → u ≡ group_text n f ds ++ t → ⊥
group_begins n (Synced m) ds t [] s e = cc
group_begins n (Synced m) ds t (b ∷ u) s e = cc (sym s ∙ ap begins_group (head_is _ _ _ _ e))
group_begins n NotSynced ds t [] s e = cc
group_begins n NotSynced ds t (b ∷ u) s e = cc (sym s ∙ ap begins_group (head_is _ _ _ _ e))
group_begins n NotClosed ds t [] s e = cc
group_begins n NotClosed ds t (b ∷ u) s e = cc (sym s ∙ ap begins_group (head_is _ _ _ _ e))

abbrev pub all_numbers : List Group → List (List (List ℕ))
all_numbers groups = map numbers_in groups

groups_more : (names : List (List ℕ)) (n : ℕ) (g : Group) (groups : List Group) (f : Fate) (fates : List Fate) (t : List ℕ)
    → group_lines names n (g ∷ groups) (f ∷ fates) ++ t ≡ group_text n f (lines_in names g) ++ (group_lines names (n + 1) groups fates ++ t)
groups_more names n g groups f fates t = append_assoc (group_text n f (lines_in names g)) (group_lines names (n + 1) groups fates) t

-- Texts that begin with groups begin with groups of the same fates and lines, and go on the same.
pub groups_once : (script : List Action) (one other : List LineEnd) (names : List (List ℕ)) (n m : ℕ) (gs hs : List Group) (fates kinds : List Fate) (t u : List ℕ) → AreWords names
    → AreGroupsOf script one names n gs fates → AreGroupsOf script other names m hs kinds → Stops begins_group t → Stops begins_group u
    → group_lines names n gs fates ++ t ≡ group_lines names m hs kinds ++ u → (fates ≡ kinds) × (all_numbers gs ≡ all_numbers hs)
groups_once script one other names n m [] [] [] [] t u w i j st su e = (refl, refl)
groups_once script one other names n m [] hs (f ∷ fates) kinds t u w i j st su e = absurd i
groups_once script one other names n m (g ∷ gs) hs [] kinds t u w i j st su e = absurd i
groups_once script one other names n m gs [] fates (k ∷ kinds) t u w i j st su e = absurd j
groups_once script one other names n m gs (h ∷ hs) fates [] t u w i j st su e = absurd j
groups_once script one other names n m [] (h ∷ hs) [] (k ∷ kinds) t u w i j st su e =
    absurd (group_begins m k (lines_in names h) (group_lines names (m + 1) hs kinds ++ u) t st (e ∙ groups_more names m h hs k kinds u))
groups_once script one other names n m (g ∷ gs) [] (f ∷ fates) [] t u w i j st su e =
    absurd (group_begins n f (lines_in names g) (group_lines names (n + 1) gs fates ++ t) u su (sym e ∙ groups_more names n g gs f fates t))
groups_once script one other names n m (g ∷ gs) (h ∷ hs) (f ∷ fates) (k ∷ kinds) t u w i j st su e =
    let first = group_once script one other names n m f k g h _ _ w i.0 j.0 i.1 j.1 i.2 j.2 (sym (groups_more names n g gs f fates t) ∙ e ∙ groups_more names m h hs k kinds u) in
    let later = groups_once script one other names (n + 1) (m + 1) gs hs fates kinds t u w i.3 j.3 st su first.2 in (
      ap (λ (x : Fate). x ∷ fates) first.0 ∙ ap (λ (xs : List Fate). k ∷ xs) later.0,
      ap (λ (x : List (List ℕ)). x ∷ all_numbers gs) first.1 ∙ ap (λ (xs : List (List (List ℕ))). numbers_in h ∷ xs) later.1,
    )

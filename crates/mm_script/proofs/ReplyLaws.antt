-- A reply is known by its text and its command, whatever follows the text.
use Rattle.std.proofs.Common.{◌≡◌, ℕ, ◌<◌, ◌^◌, ◌⊎◌, inl, inr, Bool, true, false, List, [], ◌∷◌, ◌++◌, refl, sym, ap, ◌∙◌, subst, arith, append_assoc, length}
use Rattle.std.specs.Prelude.{codes, flat_map, ◌==◌, ◌||◌, not, nat_lt}
use Rattle.std.specs.List.{list_all}
use Rattle.std.specs.Fmt.{decimal}
use Rattle.std.proofs.lemmas.Bool.{eqb-true}
use Rattle.std.proofs.lemmas.List.{append_cancel_left}
use Rattle.std.proofs.lemmas.List.Concat.{flat_map-cons}
use Rattle.mm_bson.specs.Tree.{Elements}
use Rattle.mm_model.specs.declared.reply.Reply.{Reply}
use Rattle.mm_model.specs.declared.reply.Reply.TheVariants.{Done, Found, DocTooLarge, DocTooDeep, IdArray, BadOperator, BadChange, ChangesId, NotNumber, IncOverflow, NoCollection, NoIndex, IdIndex, IndexDiffers, TooManyIndexes, ArrayKey, KeyTooLong, Duplicate, NsFull, NoSpace, OpTooLarge}
use Rattle.mm_notation.specs.Written.{written_string}
use Rattle.mm_script.specs.Replies.{document_text, reply_text}
use Rattle.mm_script.specs.Render.{is_inside, IsOneWord, IsU64, IsShown, AreShown, IsReply, Suits}
use Rattle.mm_script.proofs.Parts.{Stops, tail_is, cut_once, is_digit, number_once}
use Rattle.mm_script.proofs.Quoted.{string_once}
use Rattle.mm_script.proofs.ReplyParts.{word_of, rest_of, text_parts, word_inside, kind_of, word_kind, kind_is, kind_below, number_of, name_of, documents_of, made, of_kind}
use Rattle.mm_script.proofs.Shown.{document_once}

-- ---- what follows a reply

edge_is : (x y : Bool) → not (x || y) ≡ false → (x ≡ true) ⊎ (y ≡ true)
edge_is true y e = inl refl
edge_is false true e = inr refl
edge_is false false e = absurd (cc)

-- a byte that ends a word is no digit
no_digit : (b : ℕ) → is_inside b ≡ false → is_digit b ≡ false
no_digit b e = elim (edge_is (b == 0x20) (b == 0x0a) e) [ inl s ↦ ap is_digit (eqb-true b 0x20 s) | inr l ↦ ap is_digit (eqb-true b 0x0a l) ]

pub stops_digits : (t : List ℕ) → Stops is_inside t → Stops is_digit t
stops_digits [] s = tt
stops_digits (b ∷ t) s = no_digit b s

-- ---- documents

found_more : (d : Elements) (ds : List Elements) (t : List ℕ) → flat_map document_text (d ∷ ds) ++ t ≡ document_text d ++ (flat_map document_text ds ++ t)
found_more d ds t = ap (λ (u : List ℕ). u ++ t) (flat_map-cons document_text d ds) ∙ append_assoc (document_text d) (flat_map document_text ds) t

documents_once : (ds es : List Elements) (t u : List ℕ) → length ds ≡ length es → AreShown ds → AreShown es → flat_map document_text ds ++ t ≡ flat_map document_text es ++ u → (ds ≡ es) × (t ≡ u)
documents_once [] [] t u same sd se e = (refl, e)
documents_once [] (f ∷ es) t u same sd se e = absurd (omega (arith, same))
documents_once (d ∷ ds) [] t u same sd se e = absurd (omega (arith, same))
documents_once (d ∷ ds) (f ∷ es) t u same sd se e =
    let first = document_once d f (flat_map document_text ds ++ t) (flat_map document_text es ++ u) sd.0 se.0 (sym (found_more d ds t) ∙ e ∙ found_more f es u) in
    let later = documents_once ds es t u (omega (arith, same)) sd.1 se.1 first.1 in
    (ap (λ (x : Elements). x ∷ ds) first.0 ∙ ap (λ (xs : List Elements). f ∷ xs) later.0, later.1)

-- ---- one shape of replies at a time

Answer : Reply → Reply → List ℕ → List ℕ → Type 0
Answer r s t u = (r ≡ s) × (t ≡ u)

by_nothing : (r s : Reply) (t u : List ℕ) → s ≡ r → rest_of r ≡ [] → rest_of r ++ t ≡ rest_of s ++ u → Answer r s t u
unfolding Answer
by_nothing r s t u is none e =
    (sym is, ap (λ (l : List ℕ). l ++ t) (sym none) ∙ e ∙ ap (λ (x : Reply). rest_of x ++ u) is ∙ ap (λ (l : List ℕ). l ++ u) none)

by_number : (C : ℕ → Reply) (n m : ℕ) (s : Reply) (t u : List ℕ) → ((k : ℕ) → rest_of (C k) ≡ 0x20 ∷ decimal k) → s ≡ C m → n < 2 ^ 64 → m < 2 ^ 64
    → Stops is_inside t → Stops is_inside u → rest_of (C n) ++ t ≡ rest_of s ++ u → Answer (C n) s t u
unfolding Answer
by_number C n m s t u shape is lt gt st su e =
    let whole : 0x20 ∷ (decimal n ++ t) ≡ 0x20 ∷ (decimal m ++ u) =
    ap (λ (l : List ℕ). l ++ t) (sym (shape n)) ∙ e ∙ ap (λ (x : Reply). rest_of x ++ u) is ∙ ap (λ (l : List ℕ). l ++ u) (shape m) in
    let both = number_once n m t u lt gt (stops_digits t st) (stops_digits u su) (tail_is _ _ _ _ whole) in
    (ap C both.0 ∙ sym is, both.1)

by_name : (C : List ℕ → Reply) (a b : List ℕ) (s : Reply) (t u : List ℕ) → ((x : List ℕ) → rest_of (C x) ≡ 0x20 ∷ written_string x) → s ≡ C b
    → rest_of (C a) ++ t ≡ rest_of s ++ u → Answer (C a) s t u
unfolding Answer
by_name C a b s t u shape is e =
    let whole : 0x20 ∷ (written_string a ++ t) ≡ 0x20 ∷ (written_string b ++ u) =
    ap (λ (l : List ℕ). l ++ t) (sym (shape a)) ∙ e ∙ ap (λ (x : Reply). rest_of x ++ u) is ∙ ap (λ (l : List ℕ). l ++ u) (shape b) in
    let both = string_once a b t u (tail_is _ _ _ _ whole) in
    (ap C both.0 ∙ sym is, both.1)

by_index : (a b : List ℕ) (s : Reply) (t u : List ℕ) → s ≡ ArrayKey b → IsOneWord a → IsOneWord b → Stops is_inside t → Stops is_inside u
    → rest_of (ArrayKey a) ++ t ≡ rest_of s ++ u → Answer (ArrayKey a) s t u
unfolding Answer
by_index a b s t u is pa pb st su e =
    let whole : 0x20 ∷ (a ++ t) ≡ 0x20 ∷ (b ++ u) = e ∙ ap (λ (x : Reply). rest_of x ++ u) is in
    let both = cut_once is_inside a b t u pa pb st su (tail_is _ _ _ _ whole) in
    (ap ArrayKey both.0 ∙ sym is, both.1)

by_index_and_len : (a b : List ℕ) (n m : ℕ) (s : Reply) (t u : List ℕ) → s ≡ KeyTooLong b m → IsOneWord a × IsU64 n → IsOneWord b × IsU64 m → Stops is_inside t → Stops is_inside u
    → rest_of (KeyTooLong a n) ++ t ≡ rest_of s ++ u → Answer (KeyTooLong a n) s t u
unfolding Answer
by_index_and_len a b n m s t u is pa pb st su e =
    let whole : 0x20 ∷ (a ++ 0x20 ∷ (decimal n ++ t)) ≡ 0x20 ∷ (b ++ 0x20 ∷ (decimal m ++ u)) =
    sym (ap (λ (l : List ℕ). 0x20 ∷ l) (append_assoc a (0x20 ∷ decimal n) t)) ∙ e ∙ ap (λ (x : Reply). rest_of x ++ u) is ∙ ap (λ (l : List ℕ). 0x20 ∷ l) (append_assoc b (0x20 ∷ decimal m) u) in
    let both = cut_once is_inside a b (0x20 ∷ (decimal n ++ t)) (0x20 ∷ (decimal m ++ u)) pa.0 pb.0 refl refl (tail_is _ _ _ _ whole) in
    let len = number_once n m t u pa.1 pb.1 (stops_digits t st) (stops_digits u su) (tail_is _ _ _ _ both.1) in
    (ap (λ (x : List ℕ). KeyTooLong x n) both.0 ∙ ap (KeyTooLong b) len.0 ∙ sym is, len.1)

by_index_and_key : (a b : List ℕ) (d f : Elements) (s : Reply) (t u : List ℕ) → s ≡ Duplicate b f → IsOneWord a × IsShown d → IsOneWord b × IsShown f
    → rest_of (Duplicate a d) ++ t ≡ rest_of s ++ u → Answer (Duplicate a d) s t u
unfolding Answer
by_index_and_key a b d f s t u is pa pb e =
    let whole : codes " duplicate key " ++ (a ++ (document_text d ++ t)) ≡ codes " duplicate key " ++ (b ++ (document_text f ++ u)) =
    sym (ap (λ (l : List ℕ). codes " duplicate key " ++ l) (append_assoc a (document_text d) t)) ∙ e ∙ ap (λ (x : Reply). rest_of x ++ u) is
    ∙ ap (λ (l : List ℕ). codes " duplicate key " ++ l) (append_assoc b (document_text f) u) in
    let both = cut_once is_inside a b (document_text d ++ t) (document_text f ++ u) pa.0 pb.0 refl refl (append_cancel_left (codes " duplicate key ") _ _ whole) in
    let key = document_once d f t u pa.1 pb.1 both.1 in
    (ap (λ (x : List ℕ). Duplicate x d) both.0 ∙ ap (Duplicate b) key.0 ∙ sym is, key.1)

by_documents : (ds es : List Elements) (s : Reply) (t u : List ℕ) → s ≡ Found es → IsReply (Found ds) → IsReply (Found es) → Stops is_inside t → Stops is_inside u
    → rest_of (Found ds) ++ t ≡ rest_of s ++ u → Answer (Found ds) s t u
unfolding Answer
by_documents ds es s t u is pa pb st su e =
    let whole : 0x20 ∷ (decimal (length ds) ++ (flat_map document_text ds ++ t)) ≡ 0x20 ∷ (decimal (length es) ++ (flat_map document_text es ++ u)) =
    sym (ap (λ (l : List ℕ). 0x20 ∷ l) (append_assoc (decimal (length ds)) (flat_map document_text ds) t)) ∙ e ∙ ap (λ (x : Reply). rest_of x ++ u) is
    ∙ ap (λ (l : List ℕ). 0x20 ∷ l) (append_assoc (decimal (length es)) (flat_map document_text es) u) in
    let count = number_once (length ds) (length es) (flat_map document_text ds ++ t) (flat_map document_text es ++ u) pa.0 pb.0 (texts_stop ds t st) (texts_stop es u su) (tail_is _ _ _ _ whole) in
    let all = documents_once ds es t u count.0 pa.1 pb.1 count.1 in
    (ap Found all.0 ∙ sym is, all.1)
  where
    texts_stop : (xs : List Elements) (v : List ℕ) → Stops is_inside v → Stops is_digit (flat_map document_text xs ++ v)
    texts_stop [] v sv = stops_digits v sv
    texts_stop (x ∷ xs) v sv = subst (Stops is_digit) (sym (found_more x xs v)) refl

-- ---- all of them

rest_stops : (r : Reply) (t : List ℕ) → Stops is_inside t → Stops is_inside (rest_of r ++ t)
rest_stops (Done n) t st = refl
rest_stops (Found ds) t st = refl
rest_stops (DocTooLarge len) t st = refl
rest_stops DocTooDeep t st = st
rest_stops IdArray t st = st
rest_stops (BadOperator name) t st = refl
rest_stops (BadChange name) t st = refl
rest_stops ChangesId t st = st
rest_stops (NotNumber path) t st = refl
rest_stops (IncOverflow path) t st = refl
rest_stops (NoCollection name) t st = refl
rest_stops (NoIndex name) t st = refl
rest_stops IdIndex t st = st
rest_stops (IndexDiffers name) t st = refl
rest_stops TooManyIndexes t st = st
rest_stops (ArrayKey index) t st = refl
rest_stops (KeyTooLong index len) t st = refl
rest_stops (Duplicate index key) t st = refl
rest_stops NsFull t st = st
rest_stops NoSpace t st = st
rest_stops (OpTooLarge weight) t st = refl

same_kind : (r s : Reply) (t u : List ℕ) → IsReply r → IsReply s → Stops is_inside t → Stops is_inside u → kind_of s ≡ kind_of r → rest_of r ++ t ≡ rest_of s ++ u → Answer r s t u
same_kind (Done n) s t u pr ps st su k e = let is = of_kind s 0 k in by_number Done n (number_of s) s t u (λ m. refl) is pr (subst IsReply is ps) st su e
same_kind (Found ds) s t u pr ps st su k e = let is = of_kind s 1 k in by_documents ds (documents_of s) s t u is pr (subst IsReply is ps) st su e
same_kind (DocTooLarge len) s t u pr ps st su k e = let is = of_kind s 2 k in by_number DocTooLarge len (number_of s) s t u (λ m. refl) is pr (subst IsReply is ps) st su e
same_kind DocTooDeep s t u pr ps st su k e = by_nothing DocTooDeep s t u (of_kind s 3 k) refl e
same_kind IdArray s t u pr ps st su k e = by_nothing IdArray s t u (of_kind s 4 k) refl e
same_kind (BadOperator name) s t u pr ps st su k e = by_name BadOperator name (name_of s) s t u (λ x. refl) (of_kind s 5 k) e
same_kind (BadChange name) s t u pr ps st su k e = by_name BadChange name (name_of s) s t u (λ x. refl) (of_kind s 6 k) e
same_kind ChangesId s t u pr ps st su k e = by_nothing ChangesId s t u (of_kind s 7 k) refl e
same_kind (NotNumber path) s t u pr ps st su k e = by_name NotNumber path (name_of s) s t u (λ x. refl) (of_kind s 8 k) e
same_kind (IncOverflow path) s t u pr ps st su k e = by_name IncOverflow path (name_of s) s t u (λ x. refl) (of_kind s 9 k) e
same_kind (NoCollection name) s t u pr ps st su k e = by_name NoCollection name (name_of s) s t u (λ x. refl) (of_kind s 10 k) e
same_kind (NoIndex name) s t u pr ps st su k e = by_name NoIndex name (name_of s) s t u (λ x. refl) (of_kind s 11 k) e
same_kind IdIndex s t u pr ps st su k e = by_nothing IdIndex s t u (of_kind s 12 k) refl e
same_kind (IndexDiffers name) s t u pr ps st su k e = by_name IndexDiffers name (name_of s) s t u (λ x. refl) (of_kind s 13 k) e
same_kind TooManyIndexes s t u pr ps st su k e = by_nothing TooManyIndexes s t u (of_kind s 14 k) refl e
same_kind (ArrayKey index) s t u pr ps st su k e = let is = of_kind s 15 k in by_index index (name_of s) s t u is pr (subst IsReply is ps) st su e
same_kind (KeyTooLong index len) s t u pr ps st su k e =
    let is = of_kind s 16 k in by_index_and_len index (name_of s) len (number_of s) s t u is pr (subst IsReply is ps) st su e
same_kind (Duplicate index key) s t u pr ps st su k e = duplicate (documents_of s) (of_kind s 17 k)
  where
    duplicate : (ds : List Elements) → s ≡ made 17 (number_of s) (name_of s) ds → Answer (Duplicate index key) s t u
    duplicate [] is = absurd (let k' : kind_of s ≡ 18 = ap kind_of is in omega (arith, k, k'))
    duplicate (d ∷ ds) is = by_index_and_key index (name_of s) key d s t u is pr (subst IsReply is ps) e
same_kind NsFull s t u pr ps st su k e = by_nothing NsFull s t u (of_kind s 18 k) refl e
same_kind NoSpace s t u pr ps st su k e = by_nothing NoSpace s t u (of_kind s 19 k) refl e
same_kind (OpTooLarge weight) s t u pr ps st su k e = let is = of_kind s 20 k in by_number OpTooLarge weight (number_of s) s t u (λ m. refl) is pr (subst IsReply is ps) st su e

reply_more : (r : Reply) (t : List ℕ) → reply_text r ++ t ≡ word_of r ++ (rest_of r ++ t)
reply_more r t = ap (λ (l : List ℕ). l ++ t) (text_parts r) ∙ append_assoc (word_of r) (rest_of r) t

-- Of one command, texts that begin with a reply begin with the same one, and go on the same.
pub reply_once : (find : Bool) (r s : Reply) (t u : List ℕ) → IsReply r → IsReply s → Suits find r → Suits find s → Stops is_inside t → Stops is_inside u
    → reply_text r ++ t ≡ reply_text s ++ u → (r ≡ s) × (t ≡ u)
unfolding Answer
reply_once find r s t u pr ps fr fs st su e =
    let cut = cut_once is_inside (word_of r) (word_of s) (rest_of r ++ t) (rest_of s ++ u) (word_inside r) (word_inside s) (rest_stops r t st) (rest_stops s u su)
    (sym (reply_more r t) ∙ e ∙ reply_more s u) in
    same_kind r s t u pr ps st su (sym (kind_is find s fs) ∙ ap (word_kind find) (sym cut.0) ∙ kind_is find r fr) cut.1

-- No reply begins with a word that is none of a reply's.
pub word_apart : (find : Bool) (r : Reply) (w t rest : List ℕ) → Suits find r → Stops is_inside t → list_all is_inside w ≡ true → Stops is_inside rest → word_kind find w ≡ 99
    → reply_text r ++ t ≡ w ++ rest → ⊥
word_apart find r w t rest fr st whole sr other e =
    let cut = cut_once is_inside (word_of r) w (rest_of r ++ t) rest (word_inside r) whole (rest_stops r t st) sr (sym (reply_more r t) ∙ e) in
    let k : kind_of r ≡ 99 = sym (kind_is find r fr) ∙ ap (word_kind find) cut.0 ∙ other in
    cc (sym (kind_below r) ∙ ap (λ (i : ℕ). nat_lt i 21) k)

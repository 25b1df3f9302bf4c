-- Laws on entries that are laid over a file.
use Rattle.std.proofs.Common.{◌≡◌, ◌⊎◌, inl, inr, ℕ, ◌+◌, ◌-◌, ◌<◌, ◌≤◌, Bool, true, false, cond, ◌&&◌, ◌||◌, List, [], ◌∷◌, ◌++◌, length, get_or, Option, Some, None, refl, sym, ◌∙◌, ap, subst, arith}
use mathlib.Core.Bool.{true≢false}
use Rattle.std.proofs.lemmas.Grind.{same_number_lists}
use Rattle.std.proofs.lemmas.Bool.{cases_Bool}
use Rattle.std.proofs.lemmas.Bool.Decides.{nat_tests}
use Rattle.std.proofs.lemmas.List.{get_or-append_right, get_or_append_left, length-append, length-replicate}
use Rattle.std.specs.Prelude.{nat_le, nat_lt, unwrap_or, is_some, replicate}
use Rattle.mm_bytes.specs.Files.{overwritten, resized}
use Rattle.mm_bytes.proofs.Files.{get_or-overwritten, length-overwritten, length-resized}
use Rattle.mm_crash.specs.Overlay.{Act, Makes, Puts, Entry, is_own, put, over, makes, covers, is_made, is_covered, size, byte, DiffersWithin, LiesIn, size_after, Fits, IsMadeOnce}

-- ---- truth values

pub neither : (a b : Bool) → (a || b) ≡ false → (a ≡ false) × (b ≡ false)
neither true b e = absurd (true≢false e)
neither false b e = (refl, e)

pub none_of : (a b : Bool) → a ≡ false → b ≡ false → (a || b) ≡ false
none_of true b e f = absurd (true≢false e)
none_of false b e f = f

pub either_one : (a b : Bool) → b ≡ true → (a || b) ≡ true
either_one true b e = refl
either_one false b e = e

not_second : (a b : Bool) → a ≡ true → (a && b) ≡ false → b ≡ false
not_second true b e out = out
not_second false b e out = absurd (true≢false (sym e))

-- ---- contents of a file

pub same_content : (a b : Option (List ℕ)) → is_some a ≡ is_some b → size a ≡ size b → ((i : ℕ) → byte a i ≡ byte b i) → a ≡ b
same_content None None there sized same = refl
same_content None (Some y) there sized same = absurd (true≢false (sym there))
same_content (Some x) None there sized same = absurd (true≢false there)
same_content (Some x) (Some y) there sized same = ap (λ (l : List ℕ). Some l) (same_number_lists x y sized (λ i lt. same i))

pub there_is : (c : Option (List ℕ)) → 0 < size c → is_some c ≡ true
there_is None lt = absurd (omega arith)
there_is (Some x) lt = refl

-- ---- entries in a row

pub over-append : (a b : List Entry) (file : List ℕ) (content : Option (List ℕ)) → over (a ++ b) file content ≡ over b file (over a file content)
over-append [] b file content = refl
over-append (e ∷ a) b file content = over-append a b file (cond (is_own file e) (put e.act content) content)

pub made_append : (a b : List Entry) (file : List ℕ) → is_made file (a ++ b) ≡ (is_made file a || is_made file b)
made_append [] b file = refl
made_append (e ∷ a) b file = ap (λ v. (is_own file e && makes e.act) || v) (made_append a b file) ∙ assoc (is_own file e && makes e.act) (is_made file a) (is_made file b)
  where
    assoc : (x y z : Bool) → (x || (y || z)) ≡ ((x || y) || z)
    assoc true y z = refl
    assoc false y z = refl

pub unmade_append : (a b : List Entry) (file : List ℕ) → is_made file (a ++ b) ≡ false → (is_made file a ≡ false) × (is_made file b ≡ false)
unmade_append a b file e = neither _ _ (sym (made_append a b file) ∙ e)

pub uncovered_append : (a b : List Entry) (file : List ℕ) (i : ℕ) → is_covered file i (a ++ b) ≡ false → (is_covered file i a ≡ false) × (is_covered file i b ≡ false)
uncovered_append [] b file i e = (refl, e)
uncovered_append (r ∷ a) b file i e =
    let first = neither (is_own file r && covers r.act i) _ e in
    let rest = uncovered_append a b file i first.1 in
    (none_of _ _ first.0 rest.0, rest.1)

pub once_append : (a b : List Entry) (file : List ℕ) → IsMadeOnce file (a ++ b) → IsMadeOnce file a × IsMadeOnce file b
once_append [] b file h = (tt, h)
once_append (e ∷ a) b file h =
    let rest = once_append a b file h.1 in
    ((λ own. (unmade_append a b file (h.0 own)).0, rest.0), rest.1)

-- how long a file is after the entries
abbrev pub size_then : List ℕ → List Entry → ℕ → ℕ
size_then file [] n = n
size_then file (e ∷ entries) n = size_then file entries (cond (is_own file e) (size_after e.act n) n)

pub fits_append : (a b : List Entry) (file : List ℕ) (n : ℕ) → Fits file n (a ++ b) → Fits file n a × Fits file (size_then file a n) b
fits_append [] b file n h = (tt, h)
fits_append (e ∷ a) b file n h =
    let rest = fits_append a b file (cond (is_own file e) (size_after e.act n) n) h.1 in
    ((h.0, rest.0), rest.1)

pub fits_both : (a b : List Entry) (file : List ℕ) (n : ℕ) → Fits file n a → Fits file (size_then file a n) b → Fits file n (a ++ b)
fits_both [] b file n x y = y
fits_both (e ∷ a) b file n x y = (x.0, fits_both a b file (cond (is_own file e) (size_after e.act n) n) x.1 y)

-- ---- one entry

size-put : (act : Act) (content : Option (List ℕ)) → LiesIn act (size content) → size (put act content) ≡ size_after act (size content)
size-put (Makes len) content h = length-replicate len 0
size-put (Puts at bytes) content h = length-overwritten at bytes (unwrap_or content []) ∙ omega (arith, h.1)

size-one : (act : Act) (content : Option (List ℕ)) (own : Bool) → (own ≡ true → LiesIn act (size content)) → size (cond own (put act content) content) ≡ cond own (size_after act (size content)) (size content)
size-one act content true h = size-put act content (h refl)
size-one act content false h = refl

-- the entries decide the length
pub size-over : (entries : List Entry) (file : List ℕ) (content : Option (List ℕ)) → Fits file (size content) entries → size (over entries file content) ≡ size_then file entries (size content)
size-over [] file content h = refl
size-over (e ∷ entries) file content h =
    let here = size-one e.act content (is_own file e) h.0 in
    size-over entries file (cond (is_own file e) (put e.act content) content) (subst (λ n. Fits file n entries) (sym here) h.1) ∙ ap (size_then file entries) here

-- a file that isn't made keeps its length
pub size_unmade : (entries : List Entry) (file : List ℕ) (n : ℕ) → is_made file entries ≡ false → size_then file entries n ≡ n
size_unmade [] file n out = refl
size_unmade (e ∷ entries) file n out =
    let apart = neither (is_own file e && makes e.act) _ out in
    ap (size_then file entries) (by e.act (is_own file e) apart.0) ∙ size_unmade entries file n apart.1
  where
    by : (act : Act) (own : Bool) → (own && makes act) ≡ false → cond own (size_after act n) n ≡ n
    by (Makes len) true e = absurd (true≢false e)
    by (Puts at bytes) true e = refl
    by act false e = refl

-- a file that is made, and nothing of it before, is as long as it is made
pub size_made : (entries : List Entry) (file : List ℕ) (m n : ℕ) → is_made file entries ≡ true → size_then file entries m ≡ size_then file entries n
size_made [] file m n is = absurd (true≢false (sym is))
size_made (e ∷ entries) file m n is = by (size_made entries file m n) e.act (is_own file e) is
  where
    by : (is_made file entries ≡ true → size_then file entries m ≡ size_then file entries n) → (act : Act) (own : Bool) → ((own && makes act) || is_made file entries) ≡ true → size_then file entries (cond own (size_after act m) m) ≡ size_then file entries (cond own (size_after act n) n)
    by next (Makes len) true e = refl
    by next (Puts at bytes) true e = next e
    by next act false e = next e

-- then its length at first doesn't matter
pub fits_made : (entries : List Entry) (file : List ℕ) (m n : ℕ) → is_made file entries ≡ true → IsMadeOnce file entries → Fits file m entries → Fits file n entries
fits_made [] file m n is once h = absurd (true≢false (sym is))
fits_made (e ∷ entries) file m n is once h = by (λ is h. fits_made entries file m n is once.1 h) e.act (is_own file e) is once.0 h
  where
    by : (is_made file entries ≡ true → Fits file m entries → Fits file n entries) → (act : Act) (own : Bool) → ((own && makes act) || is_made file entries) ≡ true → (own ≡ true → is_made file entries ≡ false) → (own ≡ true → LiesIn act m) × Fits file (cond own (size_after act m) m) entries
        → (own ≡ true → LiesIn act n) × Fits file (cond own (size_after act n) n) entries
    by next (Makes len) true e once h = (λ own. tt, h.1)
    by next (Puts at bytes) true e once h = absurd (true≢false (sym e ∙ once refl))
    by next act false e later h = (λ own. absurd (true≢false (sym own)), next e h.1)

-- they fit the file that they leave
pub fits_again : (entries : List Entry) (file : List ℕ) (n : ℕ) → IsMadeOnce file entries → Fits file n entries → Fits file (size_then file entries n) entries
fits_again entries file n once h = elim (cases_Bool (is_made file entries)) [
  | inl is ↦ fits_made entries file n _ is once h
  | inr isnt ↦ subst (λ m. Fits file m entries) (sym (size_unmade entries file n isnt)) h
]

-- a file that is made is there
pub there-over : (entries : List Entry) (file : List ℕ) (content : Option (List ℕ)) → (is_made file entries ≡ true) ⊎ (is_some content ≡ true) → is_some (over entries file content) ≡ true
there-over [] file content (inl is) = absurd (true≢false (sym is))
there-over [] file content (inr is) = is
there-over (e ∷ entries) file content h = there-over entries file (cond (is_own file e) (put e.act content) content) (by e.act (is_own file e) h)
  where
    by : (act : Act) (own : Bool) → (((own && makes act) || is_made file entries) ≡ true) ⊎ (is_some content ≡ true) → (is_made file entries ≡ true) ⊎ (is_some (cond own (put act content) content) ≡ true)
    by (Makes len) true h = inr refl
    by (Puts at bytes) true h = inr refl
    by act false h = h

-- one that isn't made is there if it was
pub there_unmade : (entries : List Entry) (file : List ℕ) (content : Option (List ℕ)) → is_made file entries ≡ false → Fits file (size content) entries → is_some (over entries file content) ≡ is_some content
there_unmade [] file content out h = refl
there_unmade (e ∷ entries) file content out h = by (λ c. there_unmade entries file c) e.act (is_own file e) (neither (is_own file e && makes e.act) _ out) h
  where
    by : ((c : Option (List ℕ)) → is_made file entries ≡ false → Fits file (size c) entries → is_some (over entries file c) ≡ is_some c) → (act : Act) (own : Bool) → ((own && makes act) ≡ false) × (is_made file entries ≡ false) → (own ≡ true → LiesIn act (size content)) × Fits file (cond own (size_after act (size content)) (size content)) entries
        → is_some (over entries file (cond own (put act content) content)) ≡ is_some content
    by next (Makes len) true apart h = absurd (true≢false apart.0)
    by next (Puts at bytes) true apart h =
        let sized : size (put (Puts at bytes) content) ≡ size content = size-put (Puts at bytes) content (h.0 refl) in
        next (put (Puts at bytes) content) apart.1 (subst (λ n. Fits file n entries) (sym sized) h.1) ∙ sym (there_is content (omega (arith, (h.0 refl).0, (h.0 refl).1)))
    by next act false apart h = next content apart.1 h.1

-- what isn't covered isn't made
pub uncovered_unmade : (entries : List Entry) (file : List ℕ) (i : ℕ) → is_covered file i entries ≡ false → is_made file entries ≡ false
uncovered_unmade [] file i out = refl
uncovered_unmade (e ∷ entries) file i out =
    let apart = neither (is_own file e && covers e.act i) _ out in
    none_of _ _ (by e.act (is_own file e) apart.0) (uncovered_unmade entries file i apart.1)
  where
    by : (act : Act) (own : Bool) → (own && covers act i) ≡ false → (own && makes act) ≡ false
    by (Makes len) true e = e
    by (Puts at bytes) true e = refl
    by act false e = refl

-- ---- bytes

kept_by_one : (act : Act) (content : Option (List ℕ)) (i : ℕ) (own : Bool) → (own && covers act i) ≡ false → byte (cond own (put act content) content) i ≡ byte content i
kept_by_one (Makes len) content i true out = absurd (true≢false out)
kept_by_one (Puts at bytes) content i true out = get_or-overwritten at bytes (unwrap_or content []) i out
kept_by_one act content i false out = refl

-- a byte that no entry covers stays
pub byte-over : (entries : List Entry) (file : List ℕ) (content : Option (List ℕ)) (i : ℕ) → is_covered file i entries ≡ false → byte (over entries file content) i ≡ byte content i
byte-over [] file content i out = refl
byte-over (e ∷ entries) file content i out =
    let apart = neither (is_own file e && covers e.act i) _ out in
    byte-over entries file (cond (is_own file e) (put e.act content) content) i apart.1 ∙ kept_by_one e.act content i (is_own file e) apart.0

-- a byte within what is written is the written one
pub get_or-written : (at : ℕ) (bytes old : List ℕ) (i : ℕ) → at ≤ i → i < at + length bytes → get_or (overwritten at bytes old) i 0 ≡ get_or bytes (i - at) 0
get_or-written at bytes old i from to =
    get_or_append_left (resized at old ++ bytes) (Rattle.std.specs.Prelude.drop (at + length bytes) old) 0 i (omega (arith, length-append (resized at old) bytes, length-resized at old))
    ∙ get_or-append_right (resized at old) bytes at i 0 (length-resized at old) from

covered_by_one : (act : Act) (x y : Option (List ℕ)) (i : ℕ) (own : Bool) → (own && covers act i) ≡ true → byte (cond own (put act x) x) i ≡ byte (cond own (put act y) y) i
covered_by_one (Makes len) x y i true is = refl
covered_by_one (Puts at bytes) x y i true is =
    let from : at ≤ i = grind (arith, nat_tests, is) in
    let to : i < at + length bytes = grind (arith, nat_tests, is) in
    get_or-written at bytes (unwrap_or x []) i from to ∙ sym (get_or-written at bytes (unwrap_or y []) i from to)
covered_by_one act x y i false is = absurd (true≢false (sym is))

-- what is covered doesn't depend on what lay there
pub byte-over_same : (entries : List Entry) (file : List ℕ) (x y : Option (List ℕ)) (i : ℕ) → (is_covered file i entries ≡ false → byte x i ≡ byte y i) → byte (over entries file x) i ≡ byte (over entries file y) i
byte-over_same [] file x y i same = same refl
byte-over_same (e ∷ entries) file x y i same = byte-over_same entries file (cond (is_own file e) (put e.act x) x) (cond (is_own file e) (put e.act y) y) i (λ out. elim (cases_Bool (is_own file e && covers e.act i)) [
  | inl is ↦ covered_by_one e.act x y i (is_own file e) is
  | inr isnt ↦ kept_by_one e.act x i (is_own file e) isnt ∙ same (none_of _ _ isnt out) ∙ sym (kept_by_one e.act y i (is_own file e) isnt)
])

-- ---- contents that differ within entries

pub differs_fits : (entries others : List Entry) (file : List ℕ) (old new : Option (List ℕ)) → DiffersWithin entries file old new → (is_made file entries ≡ true → is_made file others ≡ true) → IsMadeOnce file others → Fits file (size old) others → Fits file (size new) others
differs_fits entries others file old new d among once h = elim (cases_Bool (is_made file entries)) [
  | inl is ↦ fits_made others file (size old) (size new) (among is) once h
  | inr isnt ↦ subst (λ n. Fits file n others) (sym (d.sized isnt)) h
]

-- Contents that differ within the entries alone are one once these are laid over them.
pub over_same : (entries : List Entry) (file : List ℕ) (old new : Option (List ℕ)) → DiffersWithin entries file old new → IsMadeOnce file entries → Fits file (size old) entries → over entries file new ≡ over entries file old
over_same entries file old new d once h =
    let fits : Fits file (size new) entries = differs_fits entries entries file old new d (λ is. is) once h in
    same_content (over entries file new) (over entries file old) (there (cases_Bool (is_made file entries))) (size-over entries file new fits ∙ sized (cases_Bool (is_made file entries)) ∙ sym (size-over entries file old h))
    (λ i. byte-over_same entries file new old i (d.same i))
  where
    there : (is_made file entries ≡ true) ⊎ (is_made file entries ≡ false) → is_some (over entries file new) ≡ is_some (over entries file old)
    there (inl is) = there-over entries file new (inl is) ∙ sym (there-over entries file old (inl is))
    there (inr isnt) = there_unmade entries file new isnt (differs_fits entries entries file old new d (λ is. is) once h) ∙ d.there isnt ∙ sym (there_unmade entries file old isnt h)

    sized : (is_made file entries ≡ true) ⊎ (is_made file entries ≡ false) → size_then file entries (size new) ≡ size_then file entries (size old)
    sized (inl is) = size_made entries file (size new) (size old) is
    sized (inr isnt) = ap (size_then file entries) (d.sized isnt)

-- what entries do lies within them
pub differs_over : (entries : List Entry) (file : List ℕ) (old : Option (List ℕ)) → Fits file (size old) entries → DiffersWithin entries file old (over entries file old)
differs_over entries file old h = record {
  there = λ isnt. there_unmade entries file old isnt h;
  sized = λ isnt. size-over entries file old h ∙ size_unmade entries file (size old) isnt;
  same = λ i out. byte-over entries file old i out;
}

pub differs_not : (entries : List Entry) (file : List ℕ) (old : Option (List ℕ)) → DiffersWithin entries file old old
differs_not entries file old = record { there = λ e. refl; sized = λ e. refl; same = λ i out. refl }

pub differs_then : (entries : List Entry) (file : List ℕ) (a b c : Option (List ℕ)) → DiffersWithin entries file a b → DiffersWithin entries file b c → DiffersWithin entries file a c
differs_then entries file a b c d e = record { there = λ isnt. e.there isnt ∙ d.there isnt; sized = λ isnt. e.sized isnt ∙ d.sized isnt; same = λ i out. e.same i out ∙ d.same i out }

-- within more entries too
pub differs_more : (a b : List Entry) (file : List ℕ) (old new : Option (List ℕ)) → (is_made file b ≡ false → is_made file a ≡ false) → ((i : ℕ) → is_covered file i b ≡ false → is_covered file i a ≡ false) → DiffersWithin a file old new → DiffersWithin b file old new
differs_more a b file old new made covered d = record { there = λ isnt. d.there (made isnt); sized = λ isnt. d.sized (made isnt); same = λ i out. d.same i (covered i out) }

pub differs_front : (a b : List Entry) (file : List ℕ) (old new : Option (List ℕ)) → DiffersWithin a file old new → DiffersWithin (a ++ b) file old new
differs_front a b file old new d = differs_more a (a ++ b) file old new (λ isnt. (unmade_append a b file isnt).0) (λ i out. (uncovered_append a b file i out).0) d

pub differs_back : (a b : List Entry) (file : List ℕ) (old new : Option (List ℕ)) → DiffersWithin b file old new → DiffersWithin (a ++ b) file old new
differs_back a b file old new d = differs_more b (a ++ b) file old new (λ isnt. (unmade_append a b file isnt).1) (λ i out. (uncovered_append a b file i out).1) d

-- The last of the entries may be laid over again, and fit.
pub over_last_again : (a b : List Entry) (file : List ℕ) (content : Option (List ℕ)) → IsMadeOnce file (a ++ b) → Fits file (size content) (a ++ b) → over b file (over (a ++ b) file content) ≡ over (a ++ b) file content
over_last_again a b file content once h =
    let parts = fits_append a b file (size content) h in
    let then : Fits file (size (over a file content)) b = subst (λ n. Fits file n b) (sym (size-over a file content parts.0)) parts.1 in
    ap (over b file) (over-append a b file content)
    ∙ over_same b file (over a file content) (over b file (over a file content)) (differs_over b file (over a file content) then) (once_append a b file once).1 then
    ∙ sym (over-append a b file content)

pub fits_last_again : (a b : List Entry) (file : List ℕ) (content : Option (List ℕ)) → IsMadeOnce file (a ++ b) → Fits file (size content) (a ++ b) → Fits file (size (over (a ++ b) file content)) b
fits_last_again a b file content once h =
    let parts = fits_append a b file (size content) h in
    let sized : size (over (a ++ b) file content) ≡ size_then file b (size_then file a (size content)) = size-over (a ++ b) file content h ∙ then_append a (size content) in
    subst (λ n. Fits file n b) (sym sized) (fits_again b file (size_then file a (size content)) (once_append a b file once).1 parts.1)
  where
    then_append : (a : List Entry) (n : ℕ) → size_then file (a ++ b) n ≡ size_then file b (size_then file a n)
    then_append [] n = refl
    then_append (e ∷ a) n = then_append a (cond (is_own file e) (size_after e.act n) n)

-- contents that differ nowhere are one
pub differs_nowhere : (file : List ℕ) (old new : Option (List ℕ)) → DiffersWithin [] file old new → new ≡ old
differs_nowhere file old new d = same_content new old (d.there refl) (d.sized refl) (λ i. d.same i refl)

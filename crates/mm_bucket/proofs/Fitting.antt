-- What fits a bucket, and lists that are put together from parts.
use Rattle.std.proofs.Common.{◌≡◌, ℕ, zero, suc, ◌+◌, ◌-◌, ◌<◌, ◌≤◌, List, [], ◌∷◌, ◌++◌, length, get_or, take, drop, refl, sym, ap, ◌∙◌, subst, arith, add-one, append_assoc}
use Rattle.std.proofs.lemmas.List.{length-append, take-append-drop, length-drop, get_or-drop, take_rest}
use Rattle.std.proofs.Math.Seq.{take-suc, drop-cons, take-add, take-length}
use Rattle.std.specs.List.{AllByRecursion}
use Rattle.mm_bucket.specs.Pairs.{Pair, HasKey, key_len, Fits, size, blank, pair_at}

pub key_len-append : (xs ys : List Pair) → key_len (xs ++ ys) ≡ key_len xs + key_len ys
key_len-append [] ys = omega arith
key_len-append (x ∷ xs) ys = omega (arith, key_len-append xs ys)

pub fits_front : (xs ys : List Pair) → Fits (xs ++ ys) → Fits xs
fits_front xs ys f = omega (arith, f, key_len-append xs ys, length-append xs ys)

pub fits_back : (xs ys : List Pair) → Fits (xs ++ ys) → Fits ys
fits_back xs ys f = omega (arith, f, key_len-append xs ys, length-append xs ys)

-- fewer in the middle
pub fits_without : (xs ys zs : List Pair) → Fits (xs ++ (ys ++ zs)) → Fits (xs ++ zs)
fits_without xs ys zs f =
    omega (arith, f, key_len-append xs (ys ++ zs), length-append xs (ys ++ zs), key_len-append ys zs, length-append ys zs, key_len-append xs zs, length-append xs zs)

-- one more is taken
pub more_taken : (es : List Pair) (from i : ℕ) → from ≤ i → i < length es → take (i + 1 - from) (drop from es) ≡ take (i - from) (drop from es) ++ pair_at es i ∷ []
more_taken es from i le l =
    let n : i + 1 - from ≡ suc (i - from) = omega arith in
    let at : from + (i - from) ≡ i = omega arith in
    ap (λ k. take k (drop from es)) n
    ∙ (take-suc (drop from es) (i - from) blank (omega (arith, length-drop from es))
    ∙ ap (λ e. take (i - from) (drop from es) ++ e ∷ []) (get_or-drop from es (i - from) blank ∙ ap (λ k. get_or es k blank) at))

-- the last part of what is taken
pub taken_front : (es : List Pair) (from i to : ℕ) → from ≤ i → i < to → to ≤ length es → (rest : List Pair) × (take (to - from) (drop from es) ≡ take (i + 1 - from) (drop from es) ++ rest)
taken_front es from i to le l inside =
    let n : to - from ≡ (i + 1 - from) + (to - (i + 1)) = omega arith in
    (take (to - (i + 1)) (drop (i + 1 - from) (drop from es)), ap (λ k. take k (drop from es)) n ∙ take-add (i + 1 - from) (to - (i + 1)) (drop from es))

pub fits_next : (start es : List Pair) (from i to : ℕ) → from ≤ i → i < to → to ≤ length es → Fits (start ++ take (to - from) (drop from es)) → Fits ((start ++ take (i - from) (drop from es)) ++ pair_at es i ∷ [])
fits_next start es from i to le l inside f =
    let r = taken_front es from i to le l inside in
    let whole = subst (λ (xs : List Pair). Fits (start ++ xs)) (r.1 ∙ ap (λ xs. xs ++ r.0) (more_taken es from i le (omega arith))) f in
    let part = take (i - from) (drop from es) in
    let one = pair_at es i ∷ [] in
    subst Fits (sym (append_assoc start part one)) (fits_front (start ++ (part ++ one)) r.0 (subst Fits (sym (append_assoc start (part ++ one) r.0)) whole))

pub fits_taken : (start es : List Pair) (p : ℕ) (e : Pair) → start ≡ [] → Fits (take p es ++ e ∷ drop p es) → Fits (start ++ take (p - 0) es)
fits_taken start es p e none f =
    let n : p - 0 ≡ p = omega arith in
    rw (none, n) (fits_front (take p es) (e ∷ drop p es) f)

pub fits_put : (start new es : List Pair) (p : ℕ) (e : Pair) → start ≡ [] → new ≡ start ++ take (p - 0) es → Fits (take p es ++ e ∷ drop p es) → Fits (new ++ e ∷ [])
fits_put start new es p e none is f =
    let n : p - 0 ≡ p = omega arith in
    let same : new ≡ take p es = is ∙ rw (none, n) refl in
    rw same (fits_front (take p es ++ e ∷ []) (drop p es) (subst Fits (sym (append_assoc (take p es) (e ∷ []) (drop p es))) f))

pub fits_kept : (start es : List Pair) (p : ℕ) → start ≡ [] → Fits es → Fits (start ++ take (p - 0) es)
fits_kept start es p none f =
    let n : p - 0 ≡ p = omega arith in
    rw (none, n) (fits_front (take p es) (drop p es) (subst Fits (sym (take-append-drop p es)) f))

pub fits_removed : (start new es : List Pair) (p n : ℕ) → p < length es → n ≡ length es → start ≡ [] → new ≡ start ++ take (p - 0) es → Fits es → Fits (new ++ take (n - (p + 1)) (drop (p + 1) es))
fits_removed start new es p n l len none is f =
    let k : p - 0 ≡ p = omega arith in
    let same : new ≡ take p es = is ∙ rw (none, k) refl in
    let rest : take (n - (p + 1)) (drop (p + 1) es) ≡ drop (suc p) es = ap (λ z. take (z - (p + 1)) (drop (p + 1) es)) len ∙ (take_rest es (p + 1) ∙ ap (λ z. drop z es) (add-one p)) in
    let whole : es ≡ take p es ++ ((pair_at es p ∷ []) ++ drop (suc p) es) = sym (take-append-drop p es) ∙ ap (λ xs. take p es ++ xs) (drop-cons es p blank l) in
    rw (same, rest) (fits_without (take p es) (pair_at es p ∷ []) (drop (suc p) es) (subst Fits whole f))

pub size-append : (xs ys : List Pair) → size (xs ++ ys) ≡ size xs + size ys
size-append xs ys = omega (arith, key_len-append xs ys, length-append xs ys)

pub size-take : (es : List Pair) (i : ℕ) → i < length es → size (take (i + 1) es) ≡ size (take i es) + (18 + length (pair_at es i).key)
size-take es i l =
    ap (λ n. size (take n es)) (add-one i) ∙ (ap size (take-suc es i blank l) ∙ (size-append (take i es) (pair_at es i ∷ []) ∙ omega arith))

pub size-parts : (es : List Pair) (i : ℕ) → size (take i es) + size (drop i es) ≡ size es
size-parts es i = sym (size-append (take i es) (drop i es)) ∙ ap size (take-append-drop i es)

-- the last one alone
pub size-last : (es : List Pair) (i : ℕ) → i + 1 ≡ length es → size (drop i es) ≡ 18 + length (pair_at es i).key
size-last es i e =
    let all = size-take es i (omega arith) in
    let parts = size-parts es i in
    let whole : size (take (i + 1) es) ≡ size es = ap size (ap (λ n. take n es) e ∙ take-length es) in
    omega (arith, all, parts, whole)

pub fits_part : (start es part : List Pair) → start ≡ [] → Fits part → Fits (start ++ part)
fits_part start es part none f = rw none f

pub split_right : (start es : List Pair) (n cut : ℕ) → start ≡ [] → n ≡ length es → Fits es → Fits (start ++ take (n - cut) (drop cut es))
split_right start es n cut none len f =
    let rest : take (n - cut) (drop cut es) ≡ drop cut es = ap (λ z. take (z - cut) (drop cut es)) len ∙ take_rest es cut in
    rw (none, rest) (fits_back (take cut es) (drop cut es) (subst Fits (sym (take-append-drop cut es)) f))

pub key_short : (es : List Pair) (i : ℕ) → i < length es → AllByRecursion HasKey es → length (pair_at es i).key ≤ 1024
key_short [] i l h = absurd (omega (arith, l))
key_short (e ∷ es) zero l h = h.0.short
key_short (e ∷ es) (suc i) l h = key_short es i (omega (arith, l)) h.1

-- one more, at any place
pub fits_inserted : (ps : List Pair) (i : ℕ) (p : Pair) → size ps + (18 + length p.key) ≤ 8152 → Fits (take i ps ++ p ∷ drop i ps)
fits_inserted ps i p f = omega (arith, f, size-append (take i ps) (p ∷ drop i ps), size-parts ps i)

-- the rest behind it
pub fits_rest : (start front new ps : List Pair) (i n : ℕ) (p : Pair) → start ≡ [] → front ≡ start ++ take (i - 0) ps → new ≡ front ++ p ∷ [] → n ≡ length ps → Fits (take i ps ++ p ∷ drop i ps)
    → Fits (new ++ take (n - i) (drop i ps))
fits_rest start front new ps i n p none is put len f =
    let k : i - 0 ≡ i = omega arith in
    let same : front ≡ take i ps = is ∙ rw (none, k) refl in
    let rest : take (n - i) (drop i ps) ≡ drop i ps = ap (λ z. take (z - i) (drop i ps)) len ∙ take_rest ps i in
    rw (put, same, rest) (subst Fits (sym (append_assoc (take i ps) (p ∷ []) (drop i ps))) f)

-- ---- one pair in place of another, as long

pub fits_swapped : (ps : List Pair) (i : ℕ) (p : Pair) → i < length ps → length p.key ≡ length (pair_at ps i).key → Fits ps → Fits (take i ps ++ p ∷ drop (i + 1) ps)
fits_swapped ps i p l e f = omega (arith, e, f, size-take ps i l, size-parts ps (i + 1), size-append (take i ps) (p ∷ drop (i + 1) ps))

pub fits_swap : (start front ps : List Pair) (i : ℕ) (p : Pair) → i < length ps → length p.key ≡ length (pair_at ps i).key → start ≡ [] → front ≡ start ++ take (i - 0) ps → Fits ps → Fits (front ++ p ∷ [])
fits_swap start front ps i p l e none is f =
    let k : i - 0 ≡ i = omega arith in
    let same : front ≡ take i ps = is ∙ rw (none, k) refl in
    rw same (fits_front (take i ps ++ p ∷ []) (drop (i + 1) ps) (subst Fits (sym (append_assoc (take i ps) (p ∷ []) (drop (i + 1) ps))) (fits_swapped ps i p l e f)))

pub fits_after : (start front new ps : List Pair) (i n : ℕ) (p : Pair) → i < length ps → length p.key ≡ length (pair_at ps i).key → start ≡ [] → front ≡ start ++ take (i - 0) ps → new ≡ front ++ p ∷ [] → n ≡ length ps → Fits ps
    → Fits (new ++ take (n - (i + 1)) (drop (i + 1) ps))
fits_after start front new ps i n p l e none is put len f =
    let k : i - 0 ≡ i = omega arith in
    let same : front ≡ take i ps = is ∙ rw (none, k) refl in
    let rest : take (n - (i + 1)) (drop (i + 1) ps) ≡ drop (i + 1) ps = ap (λ z. take (z - (i + 1)) (drop (i + 1) ps)) len ∙ take_rest ps (i + 1) in
    rw (put, same, rest) (subst Fits (sym (append_assoc (take i ps) (p ∷ []) (drop (i + 1) ps))) (fits_swapped ps i p l e f))

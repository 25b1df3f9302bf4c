-- An insertion into a list that is taken apart where the range belongs.
use Rattle.std.proofs.Common.{◌≡◌, ℕ, ◌+◌, ◌≤◌, Bool, true, false, List, [], ◌∷◌, ◌++◌, refl, sym, ◌∙◌, ap, arith}
use Rattle.std.specs.Prelude.{◌||◌}
use Rattle.std.proofs.lemmas.Bool.Decides.{nat_tests}
use Rattle.mm_ranges.specs.Places.{Range, is_before, is_first, is_spaced, joined, swallowed, inserted}
use Rattle.mm_ranges.specs.Room.{is_at, is_touched}
use Rattle.mm_ranges.proofs.Order.{spaced_parts, spaced_from, first_skips, before_trans}
use Rattle.mm_ranges.proofs.Inserting.{reached_rest, swallowed-apart, swallowed-touch, inserted-past, inserted-here, inserted-reached, before_joined}

-- each of these ends before the range
abbrev pub AllBefore : List Range → Range → Type 0
AllBefore [] n = Unit {0}
AllBefore (r ∷ rs) n = (is_before r n ≡ true) × AllBefore rs n

-- the range touches or overlaps the span
pub record Reaches (n r : Range) : Type 0 where
  pub back : is_before r n ≡ false
  pub forth : is_before n r ≡ false

pub inserted-append : (ps qs : List Range) (n : Range) → AllBefore ps n → inserted n (ps ++ qs) ≡ ps ++ inserted n qs
inserted-append [] qs n before = refl
inserted-append (p ∷ ps) qs n before = inserted-past n p (ps ++ qs) before.0 ∙ ap (λ (xs : List Range). p ∷ xs) (inserted-append ps qs n before.1)

-- what stands after a split is spaced
pub spaced_after : (ps qs : List Range) → is_spaced (ps ++ qs) ≡ true → is_spaced qs ≡ true
spaced_after [] qs h = h
spaced_after (p ∷ ps) qs h = spaced_after ps qs (spaced_parts p (ps ++ qs) h).rest

before_all : (p : Range) (ps qs : List Range) (r : Range) → is_first p (ps ++ r ∷ qs) ≡ true → is_spaced (ps ++ r ∷ qs) ≡ true → is_before p r ≡ true
before_all p [] qs r f h = f
before_all p (q ∷ ps) qs r f h = let parts = spaced_parts q (ps ++ r ∷ qs) h in before_trans p q r f (before_all q ps qs r parts.first parts.rest)

-- what stands before a span in order ends before it
pub all_before : (ps qs : List Range) (r : Range) → is_spaced (ps ++ r ∷ qs) ≡ true → AllBefore ps r
all_before [] qs r h = tt
all_before (p ∷ ps) qs r h = let parts = spaced_parts p (ps ++ r ∷ qs) h in (before_all p ps qs r parts.first parts.rest, all_before ps qs r parts.rest)

first_without : (p : Range) (ps qs : List Range) (r : Range) → is_first p (ps ++ r ∷ qs) ≡ true → is_spaced (ps ++ r ∷ qs) ≡ true → is_first p (ps ++ qs) ≡ true
first_without p [] qs r f h = first_skips p r qs f (spaced_parts r qs h).first
first_without p (q ∷ ps) qs r f h = f

-- one span may be taken out
pub spaced_without : (ps qs : List Range) (r : Range) → is_spaced (ps ++ r ∷ qs) ≡ true → is_spaced (ps ++ qs) ≡ true
spaced_without [] qs r h = (spaced_parts r qs h).rest
spaced_without (p ∷ ps) qs r h = let parts = spaced_parts p (ps ++ r ∷ qs) h in spaced_from p (ps ++ qs) parts.span (first_without p ps qs r parts.first parts.rest) (spaced_without ps qs r parts.rest)

before_both : (ps : List Range) (n r : Range) → Reaches n r → AllBefore ps n → AllBefore ps r → AllBefore ps (joined n r)
before_both [] n r near a b = tt
before_both (p ∷ ps) n r near a b = (before_joined p n r a.0 b.0 near.forth near.back, before_both ps n r near a.1 b.1)

-- a span that the range reaches may be joined with it first
pub inserted-joined : (ps qs : List Range) (n r : Range) → is_spaced (ps ++ r ∷ qs) ≡ true → AllBefore ps n → Reaches n r → inserted n (ps ++ r ∷ qs) ≡ inserted (joined n r) (ps ++ qs)
inserted-joined ps qs n r h before near =
    inserted-append ps (r ∷ qs) n before
    ∙ ap (λ (xs : List Range). ps ++ xs)
    (inserted-here n r qs near.back ∙ swallowed-touch n r qs near.forth ∙ sym (inserted-reached (joined n r) qs (reached_rest n r qs (spaced_after ps (r ∷ qs) h) near.forth near.back)))
    ∙ sym (inserted-append ps qs (joined n r) (before_both ps n r near before (all_before ps qs r h)))

ends_alike : (n r q : Range) → n.1 + n.2 ≤ r.1 + r.2 → is_before n r ≡ false → is_before r n ≡ false → is_before r q ≡ true → is_before (joined n r) q ≡ true
ends_alike n r q le a b c = grind (arith, nat_tests)

swallowed-whole : (n r : Range) (qs : List Range) → n.1 + n.2 ≤ r.1 + r.2 → Reaches n r → is_first r qs ≡ true → swallowed (joined n r) qs ≡ joined n r ∷ qs
swallowed-whole n r [] le near f = refl
swallowed-whole n r (q ∷ qs) le near f = swallowed-apart (joined n r) q qs (ends_alike n r q le near.forth near.back f)

-- a span that the range reaches, and that ends no earlier, takes it in
pub inserted-stretched : (ps qs : List Range) (n r : Range) → is_spaced (ps ++ r ∷ qs) ≡ true → AllBefore ps n → Reaches n r → n.1 + n.2 ≤ r.1 + r.2 → inserted n (ps ++ r ∷ qs) ≡ ps ++ joined n r ∷ qs
inserted-stretched ps qs n r h before near le =
    inserted-append ps (r ∷ qs) n before
    ∙ ap (λ (xs : List Range). ps ++ xs)
    (inserted-here n r qs near.back ∙ swallowed-touch n r qs near.forth ∙ swallowed-whole n r qs le near (spaced_parts r qs (spaced_after ps (r ∷ qs) h)).first)

not_back : (n q : Range) → is_before n q ≡ true → is_before q n ≡ false
not_back n q h = grind (arith, nat_tests)

inserted-front : (n : Range) (qs : List Range) → is_first n qs ≡ true → inserted n qs ≡ n ∷ qs
inserted-front n [] f = refl
inserted-front n (q ∷ qs) f = inserted-here n q qs (not_back n q f) ∙ swallowed-apart n q qs f

-- a range that reaches none of them stands alone
pub inserted-alone : (ps qs : List Range) (n : Range) → AllBefore ps n → is_first n qs ≡ true → inserted n (ps ++ qs) ≡ ps ++ n ∷ qs
inserted-alone ps qs n before f = inserted-append ps qs n before ∙ ap (λ (xs : List Range). ps ++ xs) (inserted-front n qs f)

-- ---- what is touched
pub touched-append : (ps qs : List Range) (f p : ℕ) → is_touched (ps ++ qs) f p ≡ (is_touched ps f p || is_touched qs f p)
touched-append [] qs f p = refl
touched-append (r ∷ ps) qs f p = ap (λ b. is_at f p r || b) (touched-append ps qs f p) ∙ sym (or-assoc (is_at f p r) (is_touched ps f p) (is_touched qs f p))
  where
    or-assoc : (a b c : Bool) → ((a || b) || c) ≡ (a || (b || c))
    or-assoc true b c = refl
    or-assoc false b c = refl

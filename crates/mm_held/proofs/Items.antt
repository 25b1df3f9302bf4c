-- Items of rising sections, and the images that they give.
use Rattle.std.proofs.Common.{◌≡◌, ℕ, ◌+◌, ◌≤◌, ◌<◌, nat_le, nat_lt, true, false, cond, List, [], ◌∷◌, ◌++◌, length, map, refl, sym, ◌∙◌, ap, arith, inl, inr}
use Rattle.std.proofs.lemmas.Bool.{cases_lt}
use Rattle.std.proofs.lemmas.Bool.Decides.{nat_tests}
use Rattle.std.proofs.lemmas.List.{map-append}
use Rattle.std.specs.FinMap.{empty}
use Rattle.mm_ranges.specs.Overlay.{Image, over, over_all}
use Rattle.mm_ranges.specs.declared.part.Part.{Part}
use Rattle.mm_ranges.specs.declared.part.Closed.{Closed}
use Rattle.mm_tie.specs.Items.{image_of, up_to, IsNumbered}
use Rattle.mm_held.specs.Images.{AreNumbered, beyond}

-- ---- sections

pub numbered_push : (n : ℕ) (items : List Closed) (x : Closed) → AreNumbered n items → x.section ≡ n + length items → AreNumbered n (items ++ x ∷ [])
numbered_push n [] x h e = (omega (arith, e), tt)
numbered_push n (i ∷ is) x h e = (h.0, numbered_push (n + 1) is x h.1 (omega (arith, e)))

pub is_numbered : (n : ℕ) (items : List Closed) (section : ℕ) → AreNumbered n items → section ≡ n + length items → IsNumbered items section
is_numbered n [] section h e = tt
is_numbered n (i ∷ []) section h e = omega (arith, e, h.0)
is_numbered n (i ∷ j ∷ is) section h e = is_numbered (n + 1) (j ∷ is) section h.1 (omega (arith, e))

-- no item of sections from n on is one up to a lesser number
pub none_up_to : (n s : ℕ) (items : List Closed) → AreNumbered n items → s < n → (up_to s items ≡ []) × (beyond s items ≡ items)
none_up_to n s [] h less = (refl, refl)
none_up_to n s (i ∷ is) h less =
    let rest = none_up_to (n + 1) s is h.1 (omega (arith, less)) in
    let above : nat_le i.section s ≡ false = grind (arith, nat_tests, h.0, less) in
    let below : nat_lt s i.section ≡ true = grind (arith, nat_tests, h.0, less) in
    (ap (λ b. cond b (i ∷ up_to s is) (up_to s is)) above ∙ rest.0, ap (λ b. cond b (i ∷ beyond s is) (beyond s is)) below ∙ ap (λ xs. i ∷ xs) rest.1)

-- an item up to the number stands first
pub in_front : (s : ℕ) (i : Closed) (is : List Closed) → i.section ≤ s → (up_to s (i ∷ is) ≡ i ∷ up_to s is) × (beyond s (i ∷ is) ≡ beyond s is)
in_front s i is low =
    let up : nat_le i.section s ≡ true = grind (arith, nat_tests, low) in
    let not_beyond : nat_lt s i.section ≡ false = grind (arith, nat_tests, low) in
    (ap (λ b. cond b (i ∷ up_to s is) (up_to s is)) up, ap (λ b. cond b (i ∷ beyond s is) (beyond s is)) not_beyond)

pub parted : (n s : ℕ) (items : List Closed) → AreNumbered n items → up_to s items ++ beyond s items ≡ items
parted n s [] h = refl
parted n s (i ∷ is) h = elim (cases_lt s n) [
  | inl high ↦ (let none = none_up_to n s (i ∷ is) h high in ap (λ xs. xs ++ beyond s (i ∷ is)) none.0 ∙ none.1)
  | inr low ↦ (let f = in_front s i is (omega (arith, h.0, low)) in ap (λ xs. xs ++ beyond s (i ∷ is)) f.0 ∙ (ap (λ xs. i ∷ up_to s is ++ xs) f.1 ∙ ap (λ xs. i ∷ xs) (parted (n + 1) s is h.1)))
]

-- the next item to be applied
pub record IsNext (n s : ℕ) (items : List Closed) (x : Closed) (rest : List Closed) : Type 0 where
  pub found : beyond s items ≡ x ∷ rest
  pub section : x.section ≡ s + 1
  pub up_to : up_to (s + 1) items ≡ up_to s items ++ x ∷ []
  pub beyond : beyond (s + 1) items ≡ rest

pub next_item : (n s : ℕ) (items : List Closed) → AreNumbered n items → n ≤ s + 1 → s + 1 < n + length items → (x : Closed) × ((rest : List Closed) × IsNext n s items x rest)
next_item n s [] h low high = absurd (omega (arith, low, high))
next_item n s (i ∷ is) h low high = elim (cases_lt s n) [
  | inl less ↦ (let above = none_up_to (n + 1) s is h.1 (omega (arith, less)) in let next = none_up_to (n + 1) (s + 1) is h.1 (omega (arith, less)) in
      let none = none_up_to n s (i ∷ is) h less in let f = in_front (s + 1) i is (omega (arith, h.0, low)) in (
        i,
        (
          is,
          record {
            found = none.1;
            section = omega (arith, h.0, low, less);
            up_to = f.0 ∙ (ap (λ xs. i ∷ xs) next.0 ∙ ap (λ xs. xs ++ i ∷ []) (sym none.0));
            beyond = f.1 ∙ next.1;
          },
        ),
      ))
  | inr more ↦ (let later = next_item (n + 1) s is h.1 (omega (arith, more)) (omega (arith, high)) in
      let f = in_front s i is (omega (arith, h.0, more)) in let f' = in_front (s + 1) i is (omega (arith, h.0, more)) in let x = later.0 in let k = later.1.1 in (
        x,
        (
          later.1.0,
          record {
            found = f.1 ∙ k.found;
            section = k.section;
            up_to = f'.0 ∙ (ap (λ xs. i ∷ xs) k.up_to ∙ ap (λ xs. xs ++ x ∷ []) (sym f.0));
            beyond = f'.1 ∙ k.beyond;
          },
        ),
      ))
]

-- a new item is beyond each number below its section
pub pushed_up_to : (s : ℕ) (items : List Closed) (x : Closed) → s < x.section → up_to s (items ++ x ∷ []) ≡ up_to s items
pushed_up_to s [] x less = (none_up_to x.section s (x ∷ []) (refl, tt) less).0
pushed_up_to s (i ∷ is) x less = ap (λ xs. cond (nat_le i.section s) (i ∷ xs) xs) (pushed_up_to s is x less)

pub pushed_beyond : (s : ℕ) (items : List Closed) (x : Closed) → s < x.section → beyond s (items ++ x ∷ []) ≡ beyond s items ++ x ∷ []
pushed_beyond s [] x less = (none_up_to x.section s (x ∷ []) (refl, tt) less).1
pushed_beyond s (i ∷ is) x less =
    let rest = pushed_beyond s is x less in
    elim (nat_lt s i.section) as (λ b. cond b (i ∷ beyond s (is ++ x ∷ [])) (beyond s (is ++ x ∷ [])) ≡ cond b (i ∷ beyond s is) (beyond s is) ++ x ∷ []) [
      | true ↦ ap (λ xs. i ∷ xs) rest
      | false ↦ rest
    ]

-- ---- images

pub over_all-append : (ps qs : List Part) (image : Image) → over_all (ps ++ qs) image ≡ over_all qs (over_all ps image)
over_all-append [] qs image = refl
over_all-append (p ∷ ps) qs image = over_all-append ps qs (over p image)

pub image_append : (items more : List Closed) → image_of (items ++ more) ≡ over_all (map (λ (i : Closed). i.part) more) (image_of items)
image_append items more = ap (λ ps. over_all ps empty) (map-append (λ (i : Closed). i.part) items more) ∙ over_all-append (map (λ (i : Closed). i.part) items) (map (λ (i : Closed). i.part) more) empty

-- Entries that are laid over a file in memory, one after another.
use Rattle.std.proofs.Common.{◌≡◌, inl, inr, ℕ, Bool, true, false, cond, ◌+◌, ◌-◌, ◌<◌, ◌≤◌, max, List, [], ◌∷◌, ◌++◌, length, get_or, take, drop, refl, sym, ◌∙◌, ap, subst, arith}
use Rattle.std.specs.Prelude.{replicate}
use Rattle.std.proofs.Math.Seq.{take-append-add, drop-append-add}
use Rattle.std.proofs.lemmas.Bool.{cases_lt}
use Rattle.std.proofs.lemmas.List.{append-nil, drop_all, take_all, take_more, take-append-le, drop-append-le, take-replicate, drop-replicate}
use Rattle.mm_bytes.specs.Files.{resized, overwritten}
use Rattle.mm_crash.specs.Overlay.{Entry, is_own, put, over}
use Rattle.mm_crash.proofs.Overlay.{over-append}
use Rattle.mm_recover.specs.Overlaid.{Content, bytes_of, LaysOver}
use Rattle.mm_recover.proofs.LayAsks.{all_entries, all-append, same_at}

-- ---- bytes that are put into a file made long enough for them are those of the definition

resized-longer : (n : ℕ) (old : List ℕ) → length old ≤ n → resized n old ≡ old ++ replicate (n - length old) 0
resized-longer n old fits = ap (λ (l : List ℕ). l ++ replicate (n - length old) 0) (take_all n old fits)

take-longer : (at more : ℕ) (old : List ℕ) → at ≤ length old + more → take at (old ++ replicate more 0) ≡ resized at old
take-longer at more old le = elim (cases_lt at (length old)) [
  | inl inside ↦
      let none : at - length old ≡ 0 = omega arith in
      take-append-le at old (replicate more 0) (omega arith) ∙ sym (append-nil (take at old)) ∙ ap (λ (k : ℕ). take at old ++ replicate k 0) (sym none)
  | inr past ↦
      let sum : at ≡ length old + (at - length old) = omega arith in
      let cut : take (at - length old) (replicate more 0) ≡ replicate (at - length old) 0 = take-replicate (at - length old) more 0 (omega arith) in
      ap (λ (k : ℕ). take k (old ++ replicate more 0)) sum ∙ take-append-add old (replicate more 0) (at - length old) ∙ ap (λ (l : List ℕ). old ++ l) cut ∙ sym (resized-longer at old past)
]

drop-longer : (end more : ℕ) (old : List ℕ) → more ≡ end - length old → drop end (old ++ replicate more 0) ≡ drop end old
drop-longer end more old is = elim (cases_lt (length old) end) [
  | inl past ↦
      let sum : end ≡ length old + (end - length old) = omega arith in
      let none : more - (end - length old) ≡ 0 = omega arith in
      ap (λ (k : ℕ). drop k (old ++ replicate more 0)) sum ∙ drop-append-add old (replicate more 0) (end - length old) ∙ drop-replicate (end - length old) more 0
      ∙ ap (λ (k : ℕ). replicate k 0) none ∙ sym (drop_all end old (omega arith))
  | inr inside ↦
      let none : more ≡ 0 = omega arith in
      drop-append-le end old (replicate more 0) inside ∙ ap (λ (k : ℕ). drop end old ++ replicate k 0) none ∙ append-nil (drop end old)
]

pub put_over : (at : ℕ) (bytes old : List ℕ) (n : ℕ) → n ≡ max (length old) (at + length bytes) → take at (resized n old) ++ bytes ++ drop (at + length bytes) (resized n old) ≡ overwritten at bytes old
put_over at bytes old n is =
    let long : resized n old ≡ old ++ replicate (n - length old) 0 = resized-longer n old (omega arith) in
    let front : take at (resized n old) ≡ resized at old = ap (take at) long ∙ take-longer at (n - length old) old (omega arith) in
    let back : drop (at + length bytes) (resized n old) ≡ drop (at + length bytes) old = ap (drop (at + length bytes)) long ∙ drop-longer (at + length bytes) (n - length old) old (omega arith) in
    ap (λ (l : List ℕ). l ++ bytes ++ drop (at + length bytes) (resized n old)) front ∙ ap (λ (l : List ℕ). resized at old ++ bytes ++ l) back

-- ---- entries

pub lays_none : (file : List ℕ) (content : Content) → LaysOver [] file content content
lays_none file content = refl

-- the entry is of another file
pub lays_other : (e : Entry) (file : List ℕ) (own : Bool) (content : Content) → own ≡ is_own file e → own ≡ false → LaysOver (e ∷ []) file content content
lays_other e file own content is not = ap (λ (b : Bool). cond b (put e.act (bytes_of content)) (bytes_of content)) (sym not ∙ is)

pub lays_own : (e : Entry) (file : List ℕ) (own : Bool) (old new : Content) → own ≡ is_own file e → own ≡ true → bytes_of new ≡ put e.act (bytes_of old) → LaysOver (e ∷ []) file old new
lays_own e file own old new is same puts = puts ∙ ap (λ (b : Bool). cond b (put e.act (bytes_of old)) (bytes_of old)) (sym same ∙ is)

pub lays_both : (file : List ℕ) (a b : List Entry) (old mid new : Content) → LaysOver a file old mid → LaysOver b file mid new → LaysOver (a ++ b) file old new
lays_both file a b old mid new first second = second ∙ ap (over b file) first ∙ sym (over-append a b file (bytes_of old))

pub lays_as : (file : List ℕ) (a b : List Entry) (old new : Content) → a ≡ b → LaysOver a file old new → LaysOver b file old new
lays_as file a b old new e lays = subst (λ (l : List Entry). LaysOver l file old new) e lays

module _ {X : Type 0} (f : X → List Entry) (file : List ℕ) where
  pub lays_next : (xs : List X) (i : ℕ) (x : X) → i < length xs → x ≡ get_or xs i x → (old mid new : Content) → LaysOver (all_entries f (take i xs)) file old mid → LaysOver (f x) file mid new → LaysOver (all_entries f (take (i + 1) xs)) file old new
  lays_next xs i x lt is old mid new first one =
      let more : take (i + 1) xs ≡ take i xs ++ x ∷ [] = take_more xs i x lt ∙ ap (λ (y : X). take i xs ++ y ∷ []) (sym is) in
      let parts : all_entries f (take (i + 1) xs) ≡ all_entries f (take i xs) ++ f x = ap (all_entries f) more ∙ all-append f (take i xs) (x ∷ []) ∙ ap (λ (l : List Entry). all_entries f (take i xs) ++ l) (append-nil (f x)) in
      lays_as file _ _ old new (sym parts) (lays_both file (all_entries f (take i xs)) (f x) old mid new first one)

  -- the same of elements that are copied
  pub lays_next_at : (xs : List X) (i : ℕ) (d : X) → i < length xs → (old mid new : Content) → LaysOver (all_entries f (take i xs)) file old mid → LaysOver (f (get_or xs i d)) file mid new → LaysOver (all_entries f (take (i + 1) xs)) file old new
  lays_next_at xs i d lt = lays_next xs i (get_or xs i d) lt (same_at f xs i d (get_or xs i d) lt)

  pub lays_done : (xs : List X) (i : ℕ) (old new : Content) → length xs ≤ i → LaysOver (all_entries f (take i xs)) file old new → LaysOver (all_entries f xs) file old new
  lays_done xs i old new le lays = subst (λ (l : List X). LaysOver (all_entries f l) file old new) (take_all i xs le) lays

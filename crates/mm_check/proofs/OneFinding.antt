-- At most one finding is the first, and there is none where no phase finds anything.
use Rattle.std.proofs.Common.{◌≡◌, ℕ, zero, suc, ◌+◌, ◌-◌, ◌<◌, inl, inr, List, [], ◌++◌, Option, Some, None, Result, Ok, Err, refl, sym, ◌∙◌, ap, subst, arith}
use Rattle.std.specs.Prelude.{flat_map}
use Rattle.std.specs.Result.{OnOk}
use Rattle.std.proofs.lemmas.Bool.{cases_lt}
use Rattle.mm_ranges.specs.Overlay.{Image}
use Rattle.mm_links.specs.Links.{Place}
use Rattle.mm_model.specs.declared.finding.What.{What}
use Rattle.mm_model.specs.declared.finding.What.TheVariants.{File, Node, Extent, Extents, Lost, Chain, Deleted, Tiling, Counts, Document, Index, Bucket, Pair}
use Rattle.mm_model.specs.declared.finding.CheckFault.{CheckFault}
use Rattle.mm_model.specs.declared.finding.CheckFault.TheVariants.{Found, NoMemory}
use Rattle.mm_walk.specs.Questions.{first_failing}
use Rattle.mm_walk.specs.Walk.{AreWhole, BreaksFirst, seen_after}
use Rattle.mm_walk.proofs.WalkLaws.{all_whole_is_one, all_whole_or_broken, first_break_is_one}
use Rattle.mm_check.specs.ExtentChain.{lost_questions}
use Rattle.mm_records.specs.Stands.{ns_in}
use Rattle.mm_check.specs.FileQuestions.{file_questions}
use Rattle.mm_check.specs.NodeQuestions.{node_questions}
use Rattle.mm_check.specs.BlockQuestions.{first_gap_of}
use Rattle.mm_check.specs.Findings.{joined, Owner, owners, file_chains, extent_chains, record_chains, list_chains, count_questions, Clear3, Clear5, Clear6, Clear7, Clear8, FindsExtents, FindsLost, FindsChain, FindsDeleted, FindsTiling, FindsCounts, IsClear}
use Rattle.mm_check.specs.PhaseOrder.{number_of, Passed, FailsAt}
use Rattle.mm_check.specs.TheCheck.{IsFinding, IfFound, Finds}

none_some : {P : Type 0} (o : Option P) (x : P) → o ≡ None → o ≡ Some x → ⊥
none_some o x e f = let g : None ≡ Some x = sym e ∙ f in cc

some_one : {P : Type 0} (o : Option P) (x y : P) → o ≡ Some x → o ≡ Some y → x ≡ y
some_one o x y e f = let g : Some x ≡ Some y = sym e ∙ f in cc

-- the word of a number
abbrev word_of : ℕ → What
word_of zero = File
word_of (suc zero) = Node
word_of (suc (suc zero)) = Extent
word_of (suc (suc (suc zero))) = Extents
word_of (suc (suc (suc (suc zero)))) = Lost
word_of (suc (suc (suc (suc (suc zero))))) = Chain
word_of (suc (suc (suc (suc (suc (suc zero)))))) = Deleted
word_of (suc (suc (suc (suc (suc (suc (suc zero))))))) = Tiling
word_of (suc (suc (suc (suc (suc (suc (suc (suc zero)))))))) = Counts
word_of (suc (suc (suc (suc (suc (suc (suc (suc (suc zero))))))))) = Document
word_of (suc (suc (suc (suc (suc (suc (suc (suc (suc (suc zero)))))))))) = Index
word_of (suc (suc (suc (suc (suc (suc (suc (suc (suc (suc (suc zero))))))))))) = Bucket
word_of (suc (suc (suc (suc (suc (suc (suc (suc (suc (suc (suc (suc n)))))))))))) = Pair

word_again : (w : What) → word_of (number_of w) ≡ w
word_again File = refl
word_again Node = refl
word_again Extent = refl
word_again Extents = refl
word_again Lost = refl
word_again Chain = refl
word_again Deleted = refl
word_again Tiling = refl
word_again Counts = refl
word_again Document = refl
word_again Index = refl
word_again Bucket = refl
word_again Pair = refl

abbrev extents_in : List Owner → List Place
extents_in os = flat_map (λ o. o.extents) os

module _ (d : List ℕ) (image : Image) where
  -- ---- what was walked is one

  found_one : (a b : List (List Place)) → Clear3 d image a → Clear3 d image b → a ≡ b
  found_one a b x y = all_whole_is_one [] (file_chains image) a b x.whole y.whole

  walked_one : (f g a b : List (List Place)) → Clear3 d image f → Clear3 d image g → AreWhole [] (extent_chains image (joined f)) a → AreWhole [] (extent_chains image (joined g)) b → a ≡ b
  walked_one f g a b x y v w =
      all_whole_is_one [] (extent_chains image (joined g)) a b (subst (λ (h : List (List Place)). AreWhole [] (extent_chains image (joined h)) a) (found_one f g x y) v) w

  chains_one : (a b : List (List Place)) → Clear5 d image a → Clear5 d image b → a ≡ b
  chains_one a b x y = walked_one x.found y.found a b x.before y.before x.whole y.whole

  records_one : (a b r s : List (List Place)) → Clear6 d image a r → Clear6 d image b s → r ≡ s
  records_one a b r s x y =
      all_whole_is_one [] (record_chains image (owners d image b)) r s (subst (λ (c : List (List Place)). AreWhole [] (record_chains image (owners d image c)) r) (chains_one a b x.before y.before) x.whole) y.whole

  blocks_one : (a b r s k l : List (List Place)) → Clear7 d image a r k → Clear7 d image b s l → k ≡ l
  blocks_one a b r s k l x y =
      let e = chains_one a b x.before.before y.before.before in let f = records_one a b r s x.before y.before in
      all_whole_is_one (seen_after [] s) (list_chains image (owners d image b)) k l
      (subst (λ (c : List (List Place)). AreWhole (seen_after [] s) (list_chains image (owners d image c)) k) e (subst (λ (q : List (List Place)). AreWhole (seen_after [] q) (list_chains image (owners d image a)) k) f x.whole)) y.whole

  -- ---- the findings, on what was walked

  extents_on : (at : Place) (f : List (List Place)) → FindsExtents d image at → Clear3 d image f → BreaksFirst [] (extent_chains image (joined f)) at
  extents_on at f x c = subst (λ (h : List (List Place)). BreaksFirst [] (extent_chains image (joined h)) at) (found_one x.found f x.before c) x.is

  lost_on : (at : Place) (f a : List (List Place)) → FindsLost d image at → Clear3 d image f → AreWhole [] (extent_chains image (joined f)) a → first_failing (lost_questions (joined f) (seen_after [] a)) ≡ Some at
  lost_on at f a x c w =
      let e = found_one x.found f x.before c in let g = walked_one x.found f x.chains a x.before c x.whole w in
      sym (λ i. first_failing (lost_questions (joined (e i)) (seen_after [] (g i)))) ∙ x.is

  chain_on : (at : Place) (a : List (List Place)) → FindsChain d image at → Clear5 d image a → BreaksFirst [] (record_chains image (owners d image a)) at
  chain_on at a x c = subst (λ (h : List (List Place)). BreaksFirst [] (record_chains image (owners d image h)) at) (chains_one x.chains a x.before c) x.is

  deleted_on : (at : Place) (a r : List (List Place)) → FindsDeleted d image at → Clear6 d image a r → BreaksFirst (seen_after [] r) (list_chains image (owners d image a)) at
  deleted_on at a r x c =
      subst (λ (q : List (List Place)). BreaksFirst (seen_after [] q) (list_chains image (owners d image a)) at) (records_one x.chains a x.records r x.before c)
      (subst (λ (h : List (List Place)). BreaksFirst (seen_after [] x.records) (list_chains image (owners d image h)) at) (chains_one x.chains a x.before.before c.before) x.is)

  -- places of all blocks, and the first gap among them
  abbrev gap_in_all : List (List Place) → List (List Place) → List (List Place) → Option Place
  gap_in_all a r k = first_gap_of image (joined r ++ joined k) (extents_in (owners d image a))

  tiling_on : (at : Place) (a r k : List (List Place)) → FindsTiling d image at → Clear7 d image a r k → gap_in_all a r k ≡ Some at
  tiling_on at a r k x c =
      let e = chains_one x.chains a x.before.before.before c.before.before in let f = records_one x.chains a x.records r x.before.before c.before in let g = blocks_one x.chains a x.records r x.blocks k x.before c in
      sym (λ i. gap_in_all (e i) (f i) (g i)) ∙ x.is

  counts_on : (at : Place) (a r k : List (List Place)) → FindsCounts d image at → Clear8 d image a r k → first_failing (count_questions image (owners d image a) r) ≡ Some at
  counts_on at a r k x c =
      let e = chains_one x.chains a x.before.before.before.before c.before.before.before in let f = records_one x.chains a x.records r x.before.before.before c.before.before in
      sym (λ i. first_failing (count_questions image (owners d image (e i)) (f i))) ∙ x.is

  -- ---- phase by phase

  before : (n : ℕ) (at : Place) → FailsAt d image n at → Passed d image n
  before zero at x = tt
  before (suc zero) at x = x.files
  before (suc (suc zero)) at x = x.before
  before (suc (suc (suc zero))) at x = (x.found, x.before)
  before (suc (suc (suc (suc zero)))) at x = (x.chains, record { found = x.found; before = x.before; whole = x.whole })
  before (suc (suc (suc (suc (suc zero))))) at x = (x.chains, x.before)
  before (suc (suc (suc (suc (suc (suc zero)))))) at x = (x.chains, x.records, x.before)
  before (suc (suc (suc (suc (suc (suc (suc zero))))))) at x = (x.chains, x.records, x.blocks, x.before)
  before (suc (suc (suc (suc (suc (suc (suc (suc zero)))))))) at x = (x.chains, x.records, x.blocks, x.before)
  before (suc (suc (suc (suc (suc (suc (suc (suc (suc n))))))))) at x = absurd x

  passed_less : (n : ℕ) → Passed d image (suc n) → Passed d image n
  passed_less zero c = tt
  passed_less (suc zero) c = c.files
  passed_less (suc (suc zero)) c = c.1.before
  passed_less (suc (suc (suc zero))) c = (c.1.found, c.1.before)
  passed_less (suc (suc (suc (suc zero)))) c = (c.0, record { found = c.1.found; before = c.1.before; whole = c.1.whole })
  passed_less (suc (suc (suc (suc (suc zero))))) c = (c.0, c.2.before)
  passed_less (suc (suc (suc (suc (suc (suc zero)))))) c = (c.0, c.1, c.3.before)
  passed_less (suc (suc (suc (suc (suc (suc (suc zero))))))) c = (c.0, c.1, c.2, c.3.before)
  passed_less (suc (suc (suc (suc (suc (suc (suc (suc zero)))))))) c = (c.0, c.1, c.2, c.3.before)
  passed_less (suc (suc (suc (suc (suc (suc (suc (suc (suc n))))))))) c = c

  -- a phase that finds something doesn't find nothing
  not_both : (n : ℕ) (at : Place) → FailsAt d image n at → Passed d image (suc n) → ⊥
  not_both zero at x c = none_some (first_failing (file_questions image)) at c x
  not_both (suc zero) at x c = none_some (first_failing (node_questions d (ns_in image))) at c.nodes x.is
  not_both (suc (suc zero)) at x c = all_whole_or_broken [] (file_chains image) c.0 at c.1.whole x.is
  not_both (suc (suc (suc zero))) at x c = all_whole_or_broken [] (extent_chains image (joined c.1.found)) c.0 at c.1.whole (extents_on at c.1.found x c.1.before)
  not_both (suc (suc (suc (suc zero)))) at x c = none_some (first_failing (lost_questions (joined c.1.found) (seen_after [] c.0))) at c.1.none_lost (lost_on at c.1.found c.0 x c.1.before c.1.whole)
  not_both (suc (suc (suc (suc (suc zero))))) at x c = all_whole_or_broken [] (record_chains image (owners d image c.0)) c.1 at c.2.whole (chain_on at c.0 x c.2.before)
  not_both (suc (suc (suc (suc (suc (suc zero)))))) at x c = all_whole_or_broken (seen_after [] c.1) (list_chains image (owners d image c.0)) c.2 at c.3.whole (deleted_on at c.0 c.1 x c.3.before)
  not_both (suc (suc (suc (suc (suc (suc (suc zero))))))) at x c = none_some (gap_in_all c.0 c.1 c.2) at c.3.no_gap (tiling_on at c.0 c.1 c.2 x c.3.before)
  not_both (suc (suc (suc (suc (suc (suc (suc (suc zero)))))))) at x c = none_some (first_failing (count_questions image (owners d image c.0) c.1)) at c.3.counted (counts_on at c.0 c.1 c.2 x c.3.before)
  not_both (suc (suc (suc (suc (suc (suc (suc (suc (suc n))))))))) at x c = x

  one_place : (n : ℕ) (at at' : Place) → FailsAt d image n at → FailsAt d image n at' → at ≡ at'
  one_place zero at at' x y = some_one (first_failing (file_questions image)) at at' x y
  one_place (suc zero) at at' x y = some_one (first_failing (node_questions d (ns_in image))) at at' x.is y.is
  one_place (suc (suc zero)) at at' x y = first_break_is_one [] (file_chains image) at at' x.is y.is
  one_place (suc (suc (suc zero))) at at' x y = first_break_is_one [] (extent_chains image (joined y.found)) at at' (extents_on at y.found x y.before) y.is
  one_place (suc (suc (suc (suc zero)))) at at' x y = some_one (first_failing (lost_questions (joined y.found) (seen_after [] y.chains))) at at' (lost_on at y.found y.chains x y.before y.whole) y.is
  one_place (suc (suc (suc (suc (suc zero))))) at at' x y = first_break_is_one [] (record_chains image (owners d image y.chains)) at at' (chain_on at y.chains x y.before) y.is
  one_place (suc (suc (suc (suc (suc (suc zero)))))) at at' x y = first_break_is_one (seen_after [] y.records) (list_chains image (owners d image y.chains)) at at' (deleted_on at y.chains y.records x y.before) y.is
  one_place (suc (suc (suc (suc (suc (suc (suc zero))))))) at at' x y = some_one (gap_in_all y.chains y.records y.blocks) at at' (tiling_on at y.chains y.records y.blocks x y.before) y.is
  one_place (suc (suc (suc (suc (suc (suc (suc (suc zero)))))))) at at' x y = some_one (first_failing (count_questions image (owners d image y.chains) y.records)) at at' (counts_on at y.chains y.records y.blocks x y.before) y.is
  one_place (suc (suc (suc (suc (suc (suc (suc (suc (suc n))))))))) at at' x y = absurd x

  passed_to : (m n k : ℕ) → k ≡ m + n → Passed d image k → Passed d image n
  passed_to zero n k e c = subst (Passed d image) (let f : k ≡ n = omega (arith, e) in f) c
  passed_to (suc m) n k e c = passed_to m n (m + n) refl (passed_less (m + n) (subst (Passed d image) (let f : k ≡ suc (m + n) = omega (arith, e) in f) c))

  not_before : (m n : ℕ) (at at' : Place) → FailsAt d image m at → FailsAt d image n at' → m < n → ⊥
  not_before m n at at' x y lt =
      let gap : n ≡ (n - suc m) + suc m = omega (arith, lt) in
      not_both m at x (passed_to (n - suc m) (suc m) n gap (before n at' y))

  -- ---- by their words

  numbered : (w : What) (at : Place) → IsFinding d image w at → FailsAt d image (number_of w) at
  numbered File at x = x
  numbered Node at x = x
  numbered Extent at x = x
  numbered Extents at x = x
  numbered Lost at x = x
  numbered Chain at x = x
  numbered Deleted at x = x
  numbered Tiling at x = x
  numbered Counts at x = x
  numbered Document at x = x
  numbered Index at x = x
  numbered Bucket at x = x
  numbered Pair at x = x

  number_low : (w : What) (at : Place) → IsFinding d image w at → number_of w < 9
  number_low File at x = omega arith
  number_low Node at x = omega arith
  number_low Extent at x = omega arith
  number_low Extents at x = omega arith
  number_low Lost at x = omega arith
  number_low Chain at x = omega arith
  number_low Deleted at x = omega arith
  number_low Tiling at x = omega arith
  number_low Counts at x = omega arith
  number_low Document at x = absurd x
  number_low Index at x = absurd x
  number_low Bucket at x = absurd x
  number_low Pair at x = absurd x

  pub finding_is_one : (w w' : What) (at at' : Place) → IsFinding d image w at → IsFinding d image w' at' → (w ≡ w') × (at ≡ at')
  finding_is_one w w' at at' x y = elim (cases_lt (number_of w) (number_of w')) [
    | inl lt ↦ absurd (not_before (number_of w) (number_of w') at at' (numbered w at x) (numbered w' at' y) lt)
    | inr ge ↦ elim (cases_lt (number_of w') (number_of w)) [
      | inl gt ↦ absurd (not_before (number_of w') (number_of w) at' at (numbered w' at' y) (numbered w at x) gt)
      | inr le ↦
          let e : number_of w ≡ number_of w' = omega (arith, ge, le) in
          (sym (word_again w) ∙ ap word_of e ∙ word_again w', one_place (number_of w') at at' (subst (λ (n : ℕ). FailsAt d image n at) e (numbered w at x)) (numbered w' at' y))
    ]
  ]

  pub clear_or_found : (w : What) (at : Place) → IsFinding d image w at → IsClear d image → ⊥
  clear_or_found w at x c =
      let lt = number_low w at x in
      not_both (number_of w) at (numbered w at x) (passed_to (8 - number_of w) (suc (number_of w)) 9 (omega (arith, lt)) (c.chains, c.records, c.blocks, c.clear))

-- ---- what is answered

pub only_found : {T : Type 0} (d : List ℕ) (image : Image) (r : Result T CheckFault) → Finds d image r → IfFound r (λ f. (w : What) (at : Place) → IsFinding d image w at → (w ≡ f.what) × (at ≡ (f.file, f.at)))
only_found d image (Ok x) h = tt
only_found d image (Err (Found f)) h = λ w at x. finding_is_one d image w f.what at (f.file, f.at) x h
only_found d image (Err NoMemory) h = tt

pub found_or_clear : {T : Type 0} (d : List ℕ) (image : Image) (r : Result T CheckFault) → Finds d image r → IfFound r (λ f. IsClear d image → ⊥)
found_or_clear d image (Ok x) h = tt
found_or_clear d image (Err (Found f)) h = clear_or_found d image f.what (f.file, f.at) h
found_or_clear d image (Err NoMemory) h = tt

pub none_found : {T : Type 0} (d : List ℕ) (image : Image) (r : Result T CheckFault) → OnOk r (IsClear d image) → OnOk r ((w : What) (at : Place) → IsFinding d image w at → ⊥)
none_found d image (Ok x) h = λ w at f. clear_or_found d image w at f h
none_found d image (Err x) h = tt

-- The first files of the journal are removed, whose sections are all marked.
use Rattle.std.proofs.Common.{◌≡◌, ◌⊎◌, inl, inr, ℕ, zero, suc, ◌+◌, ◌^◌, ◌<◌, ◌≤◌, List, [], ◌∷◌, length, take, drop, map, refl, sym, ◌∙◌, ap, subst, arith}
use Rattle.std.proofs.lemmas.List.{length-append, drop-drop}
use Rattle.mm_outside.specs.Told.{Told, Removes}
use Rattle.mm_outside.specs.Ask.{Ask, asked}
use Rattle.mm_outside.proofs.Cuts.{Safe, safe_append}
use Rattle.mm_section.specs.declared.section.Section.{Section}
use Rattle.mm_jfiles.specs.Files.{Files, dropped, remove_asks}
use Rattle.mm_crash.specs.Journal.{Format}
use Rattle.mm_crash.specs.Recovered.{Names}
use Rattle.mm_crash.specs.Story.{Story, IsSound}
use Rattle.mm_crash.specs.Parts.{LogParts}
use Rattle.mm_crash.specs.Rest.{Counts, all_of, IsAtRest}
use Rattle.mm_crash.proofs.Log.{remove_safe, remove_rest}
use Rattle.mm_journal.specs.Tracks.{Speaks, last_of, end_of, Tracks}

end_next : (fmt : Format) (n : ℕ) (r : List Section) (runs : List (List Section)) → 0 < length runs → end_of fmt n (r ∷ runs) ≡ end_of fmt (n + 1) runs
end_next fmt n r [] lt = absurd (omega arith)
end_next fmt n r (s ∷ runs) lt = refl

none_dropped : (f : Files) → f ≡ dropped 0 f
none_dropped f = let same : f.first ≡ f.first + 0 = omega arith in ap (λ n. let g : Files = record { limit = f.limit; first = n; lasts = f.lasts; end = f.end } in g) same

one_more : (n : ℕ) (f : Files) → dropped n (dropped 1 f) ≡ dropped (suc n) f
one_more n f =
    let along : f.first + 1 + n ≡ f.first + suc n = omega arith in
    let more : 1 + n ≡ suc n = omega arith in
    let behind : drop n (drop 1 f.lasts) ≡ drop (suc n) f.lasts = drop-drop n 1 f.lasts ∙ ap (λ m. drop m f.lasts) more in
    ap (λ m. let g : Files = record { limit = f.limit; first = m; lasts = drop n (drop 1 f.lasts); end = f.end } in g) along
    ∙ ap (λ (l : List ℕ). let g : Files = record { limit = f.limit; first = f.first + suc n; lasts = l; end = f.end } in g) behind

module _ (fmt : Format) (at : Names) (db : List ℕ → ℕ) (speaks : Speaks fmt at) (story : Story) (sound : IsSound fmt at story) where
  -- what stands after it: all numbers as they were, and fewer files
  pub record Removed (f : Files) (c : Counts) (u : Told) : Type 0 where
    pub counts : Counts
    pub mark : counts.mark ≡ c.mark
    pub marking : counts.marking ≡ c.marking
    pub floor : counts.floor ≡ c.floor
    pub flushed : counts.flushed ≡ c.flushed
    pub synced : counts.s ≡ c.s
    pub tracks : Tracks fmt f counts
    pub rest : IsAtRest fmt at db story counts u

  -- none is removed, or the sections in them are all marked
  abbrev pub AreMarked : ℕ → Counts → List (List Section) → Type 0
  AreMarked k c runs = (k ≡ 0) ⊎ (c.from + length (all_of (take k runs)) ≤ c.mark)

  -- one file goes
  module _ (f : Files) (c : Counts) (u : Told) (tr : Tracks fmt f c) (r : IsAtRest fmt at db story c u) (gone : List Section) (runs : List (List Section)) (is : c.runs ≡ gone ∷ runs) (small : c.first + length c.runs ≤ 2 ^ 32) (marked : c.from + length gone ≤ c.mark) where
    room : c.first < at.count
    room = omega (arith, small, ap length is, speaks.count)

    abbrev after : Counts
    after = record c { first = c.first + 1; runs = runs; from = c.from + length gone }

    abbrev ask : List Ask
    ask = record { name = at.journal c.first; change = Removes } ∷ []

    ask_is : remove_asks f.first 1 ≡ ask
    ask_is = ap (λ n. remove_asks n 1) tr.first ∙ sym (ap (λ (name : List ℕ). record { name = name; change = Removes } ∷ []) (speaks.journal c.first (omega (arith, room, speaks.count))))

    one_safe : Safe (LogParts fmt at story c.mark c.marking c.floor c.s) (remove_asks f.first 1) u
    one_safe = subst (λ (l : List Ask). Safe (LogParts fmt at story c.mark c.marking c.floor c.s) l u) (sym ask_is) (remove_safe fmt at db story sound c u r gone runs is room marked)

    one_rest : IsAtRest fmt at db story after (asked (remove_asks f.first 1) u)
    one_rest = subst (λ (l : List Ask). IsAtRest fmt at db story after (asked l u)) (sym ask_is) (remove_rest fmt at db story sound c u r gone runs is room marked)

    one_tracks : Tracks fmt (dropped 1 f) after
    one_tracks = record {
      first = ap (λ n. n + 1) tr.first;
      lasts = ap (drop 1) (tr.lasts ∙ ap (map last_of) is);
      end = λ some. tr.end (omega (arith, ap length is)) ∙ ap (end_of fmt c.first) is ∙ end_next fmt c.first gone runs some;
    }

  less : (k : ℕ) (c : Counts) (gone : List Section) (runs : List (List Section)) → AreMarked (suc k) c (gone ∷ runs) → (c.from + length gone ≤ c.mark) × ((k ≡ 0) ⊎ (c.from + length gone + length (all_of (take k runs)) ≤ c.mark))
  less k c gone runs (inl e) = absurd (omega arith)
  less k c gone runs (inr le) =
      let sized : length (all_of (take (suc k) (gone ∷ runs))) ≡ length gone + length (all_of (take k runs)) = length-append gone (all_of (take k runs)) in
      (omega (arith, le, sized), inr (omega (arith, le, sized)))

  -- stopped anywhere it is safe
  pub remove_all_safe : (k : ℕ) (f : Files) (c : Counts) (u : Told) → Tracks fmt f c → IsAtRest fmt at db story c u → (runs : List (List Section)) → c.runs ≡ runs → k ≤ length runs → c.first + length c.runs ≤ 2 ^ 32 → AreMarked k c runs
      → Safe (LogParts fmt at story c.mark c.marking c.floor c.s) (remove_asks f.first k) u
  remove_all_safe zero f c u tr r runs e le small marked = tt
  remove_all_safe (suc n) f c u tr r [] e le small marked = absurd (omega arith)
  remove_all_safe (suc n) f c u tr r (gone ∷ runs) e le small marked =
      let split = less n c gone runs marked in
      safe_append (LogParts fmt at story c.mark c.marking c.floor c.s) (remove_asks f.first 1) (remove_asks (f.first + 1) n) u (one_safe f c u tr r gone runs e small split.0)
      (remove_all_safe n (dropped 1 f) (after f c u tr r gone runs e small split.0) (asked (remove_asks f.first 1) u) (one_tracks f c u tr r gone runs e small split.0) (one_rest f c u tr r gone runs e small split.0) runs refl (omega arith) (omega (arith, small, ap length e)) split.1)

  -- done, fewer files stand there
  pub remove_all_rest : (k : ℕ) (f : Files) (c : Counts) (u : Told) → Tracks fmt f c → IsAtRest fmt at db story c u → (runs : List (List Section)) → c.runs ≡ runs → k ≤ length runs → c.first + length c.runs ≤ 2 ^ 32 → AreMarked k c runs
      → Removed (dropped k f) c (asked (remove_asks f.first k) u)
  remove_all_rest zero f c u tr r runs e le small marked = subst (λ (g : Files). Removed g c u) (none_dropped f) (record { counts = c; mark = refl; marking = refl; floor = refl; flushed = refl; synced = refl; tracks = tr; rest = r })
  remove_all_rest (suc n) f c u tr r [] e le small marked = absurd (omega arith)
  remove_all_rest (suc n) f c u tr r (gone ∷ runs) e le small marked =
      let split = less n c gone runs marked in
      let there = remove_all_rest n (dropped 1 f) (after f c u tr r gone runs e small split.0) (asked (remove_asks f.first 1) u) (one_tracks f c u tr r gone runs e small split.0) (one_rest f c u tr r gone runs e small split.0) runs refl (omega arith) (omega (arith, small, ap length e)) split.1 in
      subst (λ (g : Files). Removed g c (asked (remove_asks f.first (suc n)) u)) (one_more n f)
      (record { counts = there.counts; mark = there.mark; marking = there.marking; floor = there.floor; flushed = there.flushed; synced = there.synced; tracks = there.tracks; rest = there.rest })

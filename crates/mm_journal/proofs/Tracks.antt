-- A section is appended and synced, in a new file where the last is full; files are removed.
use Rattle.std.proofs.Common.{◌≡◌, ◌⊎◌, inl, inr, ℕ, zero, suc, ◌+◌, ◌-◌, ◌^◌, ◌<◌, ◌≤◌, Bool, true, false, cond, ◌||◌, List, [], ◌∷◌, ◌++◌, length, take, drop, map, refl, sym, ◌∙◌, ap, subst, arith, append_assoc}
use mathlib.Core.Bool.{true≢false}
use Rattle.std.proofs.lemmas.Bool.{cases_Bool}
use Rattle.std.proofs.lemmas.List.{length-append, length-map, map-append, append-nil, take-append-le, take_all, drop-drop}
use Rattle.std.specs.Prelude.{nat_le, ◌==◌}
use Rattle.mm_outside.specs.Image.{Image}
use Rattle.mm_outside.specs.Told.{Told, Syncs, Removes}
use Rattle.mm_outside.specs.Ask.{Ask, asked, IsCut, new_file_asks}
use Rattle.mm_outside.specs.Leaves.{Leaves}
use Rattle.mm_outside.proofs.Cuts.{asked-append, cut_split, Safe}
use Rattle.mm_outside.proofs.LeavesRuns.{leaves_map}
use Rattle.mm_section.specs.declared.section.Section.{Section}
use Rattle.mm_jfiles.specs.Names.{journal_name}
use Rattle.mm_jfiles.specs.Files.{Files, next_number, last_number, is_full, begun, begin_asks, ready, written, write_ask, dropped, remove_asks}
use Rattle.mm_crash.specs.Journal.{Format, spelled}
use Rattle.mm_crash.specs.Recovered.{Names}
use Rattle.mm_crash.specs.Parts.{WholeAt}
use Rattle.mm_crash.specs.Story.{Story, with_section}
use Rattle.mm_crash.specs.Rest.{Counts, file_bytes, all_of, IsKept, IsNext, synced_before}
use Rattle.mm_crash.specs.Asks.{write_asks}
use Rattle.mm_crash.proofs.Journals.{spelled-append}
use Rattle.mm_crash.proofs.Log.{begin_safe, begin_rest, remove_safe, remove_rest}
use Rattle.mm_crash.proofs.Kept.{kept_cut, kept_all, whole_more, log_cut, log_kept, logged}
use Rattle.mm_journal.specs.Tracks.{Speaks, last_of, end_of, Tracks, log_asks}

last_of-append : (run : List Section) (x : Section) → last_of (run ++ x ∷ []) ≡ x.number
last_of-append [] x = refl
last_of-append (y ∷ []) x = refl
last_of-append (y ∷ z ∷ run) x = last_of-append (z ∷ run) x

end_of-append : (fmt : Format) (n : ℕ) (front : List (List Section)) (last : List Section) → end_of fmt n (front ++ last ∷ []) ≡ length (file_bytes fmt (n + length front) last)
end_of-append fmt n [] last = let same : n + 0 ≡ n = omega arith in sym (ap (λ m. length (file_bytes fmt m last)) same)
end_of-append fmt n (r ∷ []) last = refl
end_of-append fmt n (r ∷ s ∷ front) last =
    let along : n + 1 + length (s ∷ front) ≡ n + length (r ∷ s ∷ front) = omega arith in
    end_of-append fmt (n + 1) (s ∷ front) last ∙ ap (λ m. length (file_bytes fmt m last)) along

-- a list that isn't empty has a last
pub record HasLast {X : Type 0} (xs : List X) : Type 0 where
  pub front : List X
  pub last : X
  pub is : xs ≡ front ++ last ∷ []

has_last : {X : Type 0} (x : X) (xs : List X) → HasLast (x ∷ xs)
has_last x [] = record { front = []; last = x; is = refl }
has_last x (y ∷ ys) = let rest = has_last y ys in record { front = x ∷ rest.front; last = rest.last; is = ap (λ l. x ∷ l) rest.is }

module _ (fmt : Format) (at : Names) (speaks : Speaks fmt at) (f : Files) (c : Counts) (tr : Tracks fmt f c) where
  counted : length f.lasts ≡ length c.runs
  counted = ap length tr.lasts ∙ length-map c.runs last_of

  next_is : next_number f ≡ c.first + length c.runs
  next_is = omega (arith, tr.first, counted)

  -- a new file
  pub begins_so : c.first + length c.runs < 2 ^ 32 → begin_asks f ≡ new_file_asks (at.journal (c.first + length c.runs)) (fmt.header (c.first + length c.runs))
  begins_so room =
      ap (λ n. new_file_asks (journal_name n) (Rattle.mm_jfiles.specs.Files.header_of n)) next_is
      ∙ sym (ap (λ (name : List ℕ). new_file_asks name (fmt.header (c.first + length c.runs))) (speaks.journal (c.first + length c.runs) room) ∙ ap (new_file_asks (journal_name (c.first + length c.runs))) (speaks.header (c.first + length c.runs)))

  pub tracks_begun : Tracks fmt (begun f) (record c { runs = c.runs ++ [] ∷ [] })
  tracks_begun = record {
    first = tr.first;
    lasts = ap (λ (l : List ℕ). l ++ 0 ∷ []) tr.lasts ∙ sym (map-append last_of c.runs ([] ∷ []));
    end = λ some. sym (end_of-append fmt c.first c.runs [] ∙ ap length (append-nil (fmt.header (c.first + length c.runs))) ∙ speaks.long (c.first + length c.runs));
  }

  module _ (front : List (List Section)) (last : List Section) (is : c.runs ≡ front ++ last ∷ []) where
    sized : length c.runs ≡ length front + 1
    sized = ap length is ∙ length-append front (last ∷ [])

    last_is : last_number f ≡ c.first + length front
    last_is = omega (arith, next_is, sized)

    end_is : f.end ≡ length (file_bytes fmt (c.first + length front) last)
    end_is = tr.end (omega (arith, sized)) ∙ ap (end_of fmt c.first) is ∙ end_of-append fmt c.first front last

    -- the section's write and sync
    pub writes_so : c.first + length front < 2 ^ 32 → (bytes : List ℕ) → write_ask f bytes ∷ record { name = journal_name (last_number f); change = Syncs } ∷ [] ≡ write_asks (at.journal (c.first + length front)) (length (file_bytes fmt (c.first + length front) last)) bytes
    writes_so room bytes =
        ap (λ n. write_asks (journal_name n) f.end bytes) last_is
        ∙ ap (λ e. write_asks (journal_name (c.first + length front)) e bytes) end_is
        ∙ sym (ap (λ (name : List ℕ). write_asks name (length (file_bytes fmt (c.first + length front) last)) bytes) (speaks.journal (c.first + length front) room))

    pub tracks_written : (x : Section) (bytes : List ℕ) → bytes ≡ fmt.section (c.first + length front) x → Tracks fmt (written x.number (length bytes) f) (record c { runs = front ++ (last ++ x ∷ []) ∷ []; s = c.s + 1 })
    tracks_written x bytes spells = record {
      first = tr.first;
      lasts =
          let shorter : length f.lasts - 1 ≡ length (map last_of front) = omega (arith, counted, sized, length-map front last_of) in
          let all : f.lasts ≡ map last_of front ++ last_of last ∷ [] = tr.lasts ∙ ap (map last_of) is ∙ map-append last_of front (last ∷ []) in
          ap (λ n. take n f.lasts ++ x.number ∷ []) shorter
          ∙ ap (λ (l : List ℕ). take (length (map last_of front)) l ++ x.number ∷ []) all
          ∙ ap (λ (l : List ℕ). l ++ x.number ∷ []) (take-append-le (length (map last_of front)) (map last_of front) (last_of last ∷ []) (omega arith) ∙ take_all (length (map last_of front)) (map last_of front) (omega arith))
          ∙ sym (map-append last_of front ((last ++ x ∷ []) ∷ []) ∙ ap (λ n. map last_of front ++ n ∷ []) (last_of-append last x));
      end = λ some.
          let n : ℕ = c.first + length front in
          let whole : length (file_bytes fmt n (last ++ x ∷ [])) ≡ length (file_bytes fmt n last) + length (fmt.section n x) =
          ap (λ (l : List ℕ). length (fmt.header n ++ l)) (spelled-append fmt n last x) ∙ sym (ap length (append_assoc (fmt.header n) (spelled fmt n last) (fmt.section n x))) ∙ length-append (file_bytes fmt n last) (fmt.section n x) in
          omega (arith, end_is, ap length spells, whole) ∙ sym (end_of-append fmt c.first front (last ++ x ∷ []));
    }

-- ---- a section is logged

module _ (fmt : Format) (at : Names) (db : List ℕ → ℕ) (speaks : Speaks fmt at) where
  -- what is known after it
  pub record Logged (t : Told) (more : Story) (receipts : List ℕ) (f : Files) (u : Told) : Type 0 where
    pub counts : Counts
    pub tracks : Tracks fmt f counts
    pub kept : IsKept fmt at db t more counts (receipts ++ length u.calls ∷ []) u

  module _ (t : Told) (story : Story) (receipts : List ℕ) (x : Section) (next : IsNext fmt at story x) where
    abbrev P : ℕ → Told → Image → Type 0
    P = WholeAt fmt at (with_section story x) (synced_before receipts)

    -- behind those of the last file
    module _ (f : Files) (c : Counts) (u : Told) (tr : Tracks fmt f c) (k : IsKept fmt at db t story c receipts u) (front : List (List Section)) (last : List Section) (is : c.runs ≡ front ++ last ∷ []) (room : c.first + length front < 2 ^ 32) (bytes : List ℕ) (spells : bytes ≡ fmt.section (c.first + length front) x) where
      abbrev asks : List Ask
      asks = write_ask f bytes ∷ record { name = journal_name (last_number f); change = Syncs } ∷ []

      inside : c.first + length front < at.count
      inside = omega (arith, room, speaks.count)

      asks_are : asks ≡ write_asks (at.journal (c.first + length front)) (length (file_bytes fmt (c.first + length front) last)) (fmt.section (c.first + length front) x)
      asks_are = writes_so fmt at speaks f c tr front last is room bytes ∙ ap (write_asks (at.journal (c.first + length front)) (length (file_bytes fmt (c.first + length front) last))) spells

      pub behind_cut : (v : Told) → IsCut asks u v → Leaves P t v
      behind_cut v cut = log_cut fmt at db t story c receipts u k front last is inside x next v (subst (λ (l : List Ask). IsCut l u v) asks_are cut)

      pub behind_all : Logged t (with_section story x) receipts (written x.number (length bytes) f) (asked asks u)
      behind_all = subst (λ (l : List Ask). Logged t (with_section story x) receipts (written x.number (length bytes) f) (asked l u)) (sym asks_are) (record {
        counts = logged fmt at db t story c receipts u k front last is inside x next;
        tracks = tracks_written fmt at speaks f c tr front last is x bytes spells;
        kept = log_kept fmt at db t story c receipts u k front last is inside x next;
      })

    module _ (f : Files) (c : Counts) (u : Told) (tr : Tracks fmt f c) (k : IsKept fmt at db t story c receipts u) (room : next_number f < 2 ^ 32) (bytes : List ℕ) (spells : bytes ≡ fmt.section (last_number (ready f)) x) where
      rooms : c.first + length c.runs < at.count
      rooms = omega (arith, room, next_is fmt at speaks f c tr, speaks.count)

      safe : Safe (Rattle.mm_crash.specs.Parts.LogParts fmt at story c.mark c.marking c.floor c.s) (new_file_asks (at.journal (c.first + length c.runs)) (fmt.header (c.first + length c.runs))) u
      safe = begin_safe fmt at db story k.sound c u k.rest rooms

      begun_kept : IsKept fmt at db t story (record c { runs = c.runs ++ [] ∷ [] }) receipts (asked (begin_asks f) u)
      begun_kept = subst (λ (l : List Ask). IsKept fmt at db t story (record c { runs = c.runs ++ [] ∷ [] }) receipts (asked l u)) (sym (begins_so fmt at speaks f c tr (omega (arith, rooms, speaks.count))))
          (kept_all fmt at db t story c (record c { runs = c.runs ++ [] ∷ [] }) receipts u k (new_file_asks (at.journal (c.first + length c.runs)) (fmt.header (c.first + length c.runs))) safe (begin_rest fmt at db story k.sound c u k.rest rooms) refl)

      begun_cut : (v : Told) → IsCut (begin_asks f) u v → Leaves P t v
      begun_cut v cut = leaves_map (WholeAt fmt at story (synced_before receipts)) P t v (λ m y image whole chance. whole_more fmt at db story x (synced_before receipts m) image (whole chance))
          (kept_cut fmt at db t story c receipts u k (new_file_asks (at.journal (c.first + length c.runs)) (fmt.header (c.first + length c.runs))) v safe (subst (λ (l : List Ask). IsCut l u v) (begins_so fmt at speaks f c tr (omega (arith, rooms, speaks.count))) cut))

      -- the calls, by whether the last file is full
      asks_full : is_full f ≡ true → log_asks f bytes ≡ begin_asks f ++ write_ask (begun f) bytes ∷ record { name = journal_name (last_number (begun f)); change = Syncs } ∷ []
      asks_full e = ap (λ (b : Bool). (cond b (begin_asks f) [] ++ write_ask (cond b (begun f) f) bytes ∷ []) ++ record { name = journal_name (last_number (cond b (begun f) f)); change = Syncs } ∷ []) e ∙ append_assoc (begin_asks f) (write_ask (begun f) bytes ∷ []) (record { name = journal_name (last_number (begun f)); change = Syncs } ∷ [])

      asks_room : is_full f ≡ false → log_asks f bytes ≡ write_ask f bytes ∷ record { name = journal_name (last_number f); change = Syncs } ∷ []
      asks_room e = ap (λ (b : Bool). (cond b (begin_asks f) [] ++ write_ask (cond b (begun f) f) bytes ∷ []) ++ record { name = journal_name (last_number (cond b (begun f) f)); change = Syncs } ∷ []) e

      ready_full : is_full f ≡ true → ready f ≡ begun f
      ready_full e = ap (λ (b : Bool). cond b (begun f) f) e

      ready_room : is_full f ≡ false → ready f ≡ f
      ready_room e = ap (λ (b : Bool). cond b (begun f) f) e

      begun_last : last_number (begun f) ≡ c.first + length c.runs
      begun_last = omega (arith, tr.first, counted fmt at speaks f c tr, length-append f.lasts (0 ∷ []))

      spells_full : is_full f ≡ true → bytes ≡ fmt.section (c.first + length c.runs) x
      spells_full e = spells ∙ ap (λ (h : Files). fmt.section (last_number h) x) (ready_full e) ∙ ap (λ m. fmt.section m x) begun_last

      -- there is a file where the last isn't full
      some_runs : (runs : List (List Section)) → c.runs ≡ runs → is_full f ≡ false → HasLast runs
      some_runs [] e isnt =
          let none : length f.lasts ≡ 0 = counted fmt at speaks f c tr ∙ ap length e in
          absurd (true≢false (sym (full none) ∙ isnt))
        where
          full : length f.lasts ≡ 0 → is_full f ≡ true
          full none = ap (λ m. m == 0 || nat_le f.limit f.end) none
      some_runs (r ∷ runs) e isnt = has_last r runs

      module _ (isnt : is_full f ≡ false) where
        the_last : HasLast c.runs
        the_last = some_runs c.runs refl isnt

        last_there : last_number f ≡ c.first + length the_last.front
        last_there = last_is fmt at speaks f c tr the_last.front the_last.last the_last.is

        spells_room : bytes ≡ fmt.section (c.first + length the_last.front) x
        spells_room = spells ∙ ap (λ (h : Files). fmt.section (last_number h) x) (ready_room isnt) ∙ ap (λ m. fmt.section m x) last_there

        room_there : c.first + length the_last.front < 2 ^ 32
        room_there = omega (arith, room, last_there)

      -- Stopped anywhere, it leaves images that are whole.
      pub logs_cut : (v : Told) → IsCut (log_asks f bytes) u v → Leaves P t v
      logs_cut v cut = elim (cases_Bool (is_full f)) [
        | inl full ↦ elim (cut_split (begin_asks f) (write_ask (begun f) bytes ∷ record { name = journal_name (last_number (begun f)); change = Syncs } ∷ []) u v (subst (λ (l : List Ask). IsCut l u v) (asks_full full) cut)) [
          | inl beginning ↦ begun_cut v beginning
          | inr writing ↦ behind_cut (begun f) (record c { runs = c.runs ++ [] ∷ [] }) (asked (begin_asks f) u) (tracks_begun fmt at speaks f c tr) begun_kept c.runs [] refl (omega (arith, room, next_is fmt at speaks f c tr)) bytes (spells_full full) v writing
        ]
        | inr isnt ↦ behind_cut f c u tr k (the_last isnt).front (the_last isnt).last (the_last isnt).is (room_there isnt) bytes (spells_room isnt) v (subst (λ (l : List Ask). IsCut l u v) (asks_room isnt) cut)
      ]

      -- Done, it keeps the fact, with one receipt more.
      pub logs_all : Logged t (with_section story x) receipts (written x.number (length bytes) (ready f)) (asked (log_asks f bytes) u)
      logs_all = elim (cases_Bool (is_full f)) [
        | inl full ↦
            subst (λ (h : Files). Logged t (with_section story x) receipts (written x.number (length bytes) h) (asked (log_asks f bytes) u)) (sym (ready_full full))
            (subst (λ (v : Told). Logged t (with_section story x) receipts (written x.number (length bytes) (begun f)) v) (sym (ap (λ (l : List Ask). asked l u) (asks_full full) ∙ asked-append (begin_asks f) (write_ask (begun f) bytes ∷ record { name = journal_name (last_number (begun f)); change = Syncs } ∷ []) u))
            (behind_all (begun f) (record c { runs = c.runs ++ [] ∷ [] }) (asked (begin_asks f) u) (tracks_begun fmt at speaks f c tr) begun_kept c.runs [] refl (omega (arith, room, next_is fmt at speaks f c tr)) bytes (spells_full full)))
        | inr isnt ↦
            subst (λ (h : Files). Logged t (with_section story x) receipts (written x.number (length bytes) h) (asked (log_asks f bytes) u)) (sym (ready_room isnt))
            (subst (λ (l : List Ask). Logged t (with_section story x) receipts (written x.number (length bytes) f) (asked l u)) (sym (asks_room isnt))
            (behind_all f c u tr k (the_last isnt).front (the_last isnt).last (the_last isnt).is (room_there isnt) bytes (spells_room isnt)))
      ]

-- ---- the first files are removed, whose sections are all marked

module _ (fmt : Format) (at : Names) (db : List ℕ → ℕ) (speaks : Speaks fmt at) (t : Told) (story : Story) (receipts : List ℕ) where
  pub record Trimmed (f : Files) (mark s : ℕ) (u : Told) : Type 0 where
    pub counts : Counts
    pub marked : counts.mark ≡ mark
    pub synced : counts.s ≡ s
    pub tracks : Tracks fmt f counts
    pub kept : IsKept fmt at db t story counts receipts u

  end_next : (n : ℕ) (r : List Section) (runs : List (List Section)) → 0 < length runs → end_of fmt n (r ∷ runs) ≡ end_of fmt (n + 1) runs
  end_next n r [] lt = absurd (omega arith)
  end_next n r (s ∷ runs) lt = refl

  less : (k : ℕ) (r : List Section) (runs : List (List Section)) (from mark : ℕ) → (suc k ≡ 0) ⊎ (from + length (all_of (take (suc k) (r ∷ runs))) ≤ mark) → (from + length r ≤ mark) × ((k ≡ 0) ⊎ (from + length r + length (all_of (take k runs)) ≤ mark))
  less k r runs from mark (inl e) = absurd (omega arith)
  less k r runs from mark (inr le) =
      let sized : length (all_of (take (suc k) (r ∷ runs))) ≡ length r + length (all_of (take k runs)) = length-append r (all_of (take k runs)) in
      (omega (arith, le, sized), inr (omega (arith, le, sized)))

  -- one file goes
  module _ (f : Files) (c : Counts) (u : Told) (tr : Tracks fmt f c) (k : IsKept fmt at db t story c receipts u) (gone : List Section) (runs : List (List Section)) (is : c.runs ≡ gone ∷ runs) (small : c.first + length c.runs ≤ 2 ^ 32) (marked : c.from + length gone ≤ c.mark) where
    room : c.first < at.count
    room = omega (arith, small, ap length is, speaks.count)

    abbrev after : Counts
    after = record c { first = c.first + 1; runs = runs; from = c.from + length gone }

    abbrev ask : List Ask
    ask = record { name = at.journal c.first; change = Removes } ∷ []

    ask_is : remove_asks f.first 1 ≡ ask
    ask_is = ap (λ n. remove_asks n 1) tr.first ∙ sym (ap (λ (name : List ℕ). record { name = name; change = Removes } ∷ []) (speaks.journal c.first (omega (arith, room, speaks.count))))

    safe_one : Safe (Rattle.mm_crash.specs.Parts.LogParts fmt at story c.mark c.marking c.floor c.s) ask u
    safe_one = remove_safe fmt at db story k.sound c u k.rest gone runs is room marked

    one_cut : (v : Told) → IsCut (remove_asks f.first 1) u v → Leaves (WholeAt fmt at story (synced_before receipts)) t v
    one_cut v cut = kept_cut fmt at db t story c receipts u k ask v safe_one (subst (λ (l : List Ask). IsCut l u v) ask_is cut)

    one_kept : IsKept fmt at db t story after receipts (asked (remove_asks f.first 1) u)
    one_kept = subst (λ (l : List Ask). IsKept fmt at db t story after receipts (asked l u)) (sym ask_is) (kept_all fmt at db t story c after receipts u k ask safe_one (remove_rest fmt at db story k.sound c u k.rest gone runs is room marked) refl)

    one_tracks : Tracks fmt (dropped 1 f) after
    one_tracks = record {
      first = ap (λ n. n + 1) tr.first;
      lasts = ap (drop 1) (tr.lasts ∙ ap (map last_of) is);
      end = λ some. tr.end (omega (arith, ap length is)) ∙ ap (end_of fmt c.first) is ∙ end_next c.first gone runs some;
    }

  none_dropped : (f : Files) → f ≡ dropped 0 f
  none_dropped f = let same : f.first ≡ f.first + 0 = omega arith in ap (λ n. let g : Files = record { limit = f.limit; first = n; lasts = f.lasts; end = f.end } in g) same

  one_more : (n : ℕ) (f : Files) → dropped n (dropped 1 f) ≡ dropped (suc n) f
  one_more n f =
      let along : f.first + 1 + n ≡ f.first + suc n = omega arith in
      let more : 1 + n ≡ suc n = omega arith in
      let behind : drop n (drop 1 f.lasts) ≡ drop (suc n) f.lasts = drop-drop n 1 f.lasts ∙ ap (λ m. drop m f.lasts) more in
      ap (λ m. let g : Files = record { limit = f.limit; first = m; lasts = drop n (drop 1 f.lasts); end = f.end } in g) along
      ∙ ap (λ (l : List ℕ). let g : Files = record { limit = f.limit; first = f.first + suc n; lasts = l; end = f.end } in g) behind

  pub trims_all : (k : ℕ) (f : Files) (c : Counts) (u : Told) → Tracks fmt f c → IsKept fmt at db t story c receipts u → (runs : List (List Section)) → c.runs ≡ runs → k ≤ length runs → c.first + length c.runs ≤ 2 ^ 32 → (k ≡ 0) ⊎ (c.from + length (all_of (take k runs)) ≤ c.mark)
      → Trimmed (dropped k f) c.mark c.s (asked (remove_asks f.first k) u)
  trims_all zero f c u tr k runs e le small marked = subst (λ (g : Files). Trimmed g c.mark c.s u) (none_dropped f) (record { counts = c; marked = refl; synced = refl; tracks = tr; kept = k })
  trims_all (suc n) f c u tr k [] e le small marked = absurd (omega arith)
  trims_all (suc n) f c u tr k (gone ∷ runs) e le small marked =
      let split = less n gone runs c.from c.mark marked in
      let rest = trims_all n (dropped 1 f) (after f c u tr k gone runs e small split.0) (asked (remove_asks f.first 1) u) (one_tracks f c u tr k gone runs e small split.0) (one_kept f c u tr k gone runs e small split.0) runs refl (omega arith) (omega (arith, small, ap length e)) split.1 in
      subst (λ (g : Files). Trimmed g c.mark c.s (asked (remove_asks f.first (suc n)) u)) (one_more n f) rest

  pub trims_cut : (k : ℕ) (f : Files) (c : Counts) (u : Told) → Tracks fmt f c → IsKept fmt at db t story c receipts u → (runs : List (List Section)) → c.runs ≡ runs → k ≤ length runs → c.first + length c.runs ≤ 2 ^ 32 → (k ≡ 0) ⊎ (c.from + length (all_of (take k runs)) ≤ c.mark)
      → (v : Told) → IsCut (remove_asks f.first k) u v → Leaves (WholeAt fmt at story (synced_before receipts)) t v
  trims_cut zero f c u tr k runs e le small marked v cut = subst (Leaves (WholeAt fmt at story (synced_before receipts)) t) (sym cut) k.leaves
  trims_cut (suc n) f c u tr k [] e le small marked v cut = absurd (omega arith)
  trims_cut (suc n) f c u tr k (gone ∷ runs) e le small marked v cut =
      let split = less n gone runs c.from c.mark marked in
      elim (cut_split (remove_asks f.first 1) (remove_asks (f.first + 1) n) u v cut) [
        | inl first ↦ one_cut f c u tr k gone runs e small split.0 v first
        | inr later ↦ trims_cut n (dropped 1 f) (after f c u tr k gone runs e small split.0) (asked (remove_asks f.first 1) u) (one_tracks f c u tr k gone runs e small split.0) (one_kept f c u tr k gone runs e small split.0) runs refl (omega arith) (omega (arith, small, ap length e)) split.1 v later
      ]

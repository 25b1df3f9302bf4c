-- A run of calls, done or stopped, leads the fact on.
use Rattle.std.proofs.Common.{◌≡◌, inl, inr, ℕ, ◌+◌, ◌<◌, ◌≤◌, true, false, cond, List, [], ◌∷◌, ◌++◌, length, get_or, refl, sym, ◌∙◌, ap, subst, arith}
use Rattle.std.proofs.lemmas.Bool.{cases_lt}
use Rattle.std.proofs.lemmas.Bool.Decides.{nat_tests}
use Rattle.std.proofs.lemmas.List.{length-append, get_or_append_left, get_or-append-add}
use Rattle.std.specs.Prelude.{nat_lt}
use Rattle.mm_outside.specs.Image.{Image}
use Rattle.mm_outside.specs.Told.{Told}
use Rattle.mm_outside.specs.Place.{Place, place_of}
use Rattle.mm_outside.specs.Leaves.{LeavesNow, Leaves}
use Rattle.mm_outside.specs.Ask.{Ask, asked, IsCut}
use Rattle.mm_outside.proofs.Cuts.{Safe, leaves_all, leaves_cut}
use Rattle.mm_outside.proofs.LeavesRuns.{leaves_first, leaves_map, leaves_retold}
use Rattle.mm_section.specs.declared.section.Section.{Section}
use Rattle.mm_crash.specs.Overlay.{DiffersWithin}
use Rattle.mm_crash.specs.Journal.{Format, HasJournal, entries_of}
use Rattle.mm_crash.specs.Recovered.{Names, Files}
use Rattle.mm_crash.specs.Story.{Story, state, laid, IsSound, with_section}
use Rattle.mm_crash.specs.Parts.{Stands, LogParts}
use Rattle.mm_crash.specs.Rest.{Counts, IsAtRest, IsNext, IsRecovered, new_story, no_counts}
use Rattle.mm_crash.proofs.Parts.{stands, whole}
use Rattle.mm_crash.proofs.Log.{rest_parts, marking_rest}
use Rattle.mm_crash.proofs.Kept.{run_more, state_more, sound_more, whole_more, rest_more, kept_start}
use Rattle.mm_prefix.specs.Prefix.{Numbers, numbers_of, IsPrefix, PrefixAt, since, AreReceipts, IsDurable, at_first}

-- ---- the numbers at a moment

pub since_late : (moment m : ℕ) (n : Numbers) (history : ℕ → Numbers) → moment < m → since moment n history m ≡ n
since_late moment m n history lt =
    let late : nat_lt moment m ≡ true = grind (arith, nat_tests) in
    ap (λ b. cond b n (history m)) late

pub since_early : (moment m : ℕ) (n : Numbers) (history : ℕ → Numbers) → m ≤ moment → since moment n history m ≡ history m
since_early moment m n history le =
    let early : nat_lt moment m ≡ false = grind (arith, nat_tests) in
    ap (λ b. cond b n (history m)) early

-- no receipt more
receipts_kept : (receipts : List ℕ) (history : ℕ → Numbers) (moment : ℕ) (n : Numbers) → AreReceipts receipts history → length receipts ≤ n.synced → AreReceipts receipts (since moment n history)
receipts_kept receipts history moment n are le k lt m later = elim (cases_lt moment m) [
  | inl late ↦ omega (arith, ap (λ (x : Numbers). x.synced) (since_late moment m n history late))
  | inr early ↦ omega (arith, are k lt m later, ap (λ (x : Numbers). x.synced) (since_early moment m n history early))
]

-- one receipt more, of this moment
receipts_more : (receipts : List ℕ) (history : ℕ → Numbers) (moment : ℕ) (n : Numbers) → AreReceipts receipts history → length receipts + 1 ≤ n.synced → AreReceipts (receipts ++ moment ∷ []) (since moment n history)
receipts_more receipts history moment n are le k lt m later =
    let sized = length-append receipts (moment ∷ []) in
    elim (cases_lt moment m) [
      | inl late ↦ omega (arith, sized, ap (λ (x : Numbers). x.synced) (since_late moment m n history late))
      | inr early ↦ elim (cases_lt k (length receipts)) [
        | inl older ↦ omega (arith, are k older m (omega (arith, later, get_or_append_left receipts (moment ∷ []) 0 k older)), ap (λ (x : Numbers). x.synced) (since_early moment m n history early))
        | inr newest ↦
            let is : length receipts + 0 ≡ k = omega (arith, le, newest, sized) in
            absurd (omega (arith, later, get_or-append-add receipts (moment ∷ []) 0 0, ap (λ i. get_or (receipts ++ moment ∷ []) i 0) is))
      ]
    ]

module _ (fmt : Format) (at : Names) (db : List ℕ → ℕ) where
  floor_synced : (story : Story) (c : Counts) (u : Told) → IsAtRest fmt at db story c u → c.floor ≤ c.s
  floor_synced story c u r = omega (arith, r.floor_flushed 0, r.flushed_s 0)

  -- from what the places may leave to what an image is
  parts_prefix : (story : Story) → IsSound fmt at story → (n : Numbers) → n.mark ≤ n.marking → n.marking ≤ n.floor → n.floor ≤ n.synced → (history : ℕ → Numbers) (from : ℕ) → ((m : ℕ) → from < m → history m ≡ n) → (u : Told) → LogParts fmt at story n.mark n.marking n.floor n.synced (place_of u)
      → LeavesNow (PrefixAt fmt at story history) from u
  parts_prefix story sound n mm mf fs history from is u parts m image lt left chance =
      let st : Stands fmt at story n.mark n.marking n.floor n.synced image = stands fmt at story n.mark n.marking n.floor n.synced u image parts left chance in
      subst (λ x. IsPrefix fmt at story x image) (sym (is m lt)) (record { mark_marking = mm; marking_floor = mf; floor_synced = fs; stands = st; whole = whole fmt at story sound n.mark n.marking n.floor n.synced mm mf fs image st })

  rest_prefix : (story : Story) → IsSound fmt at story → (c : Counts) (u : Told) → IsAtRest fmt at db story c u → (history : ℕ → Numbers) (from : ℕ) → ((m : ℕ) → from < m → history m ≡ numbers_of c) → LeavesNow (PrefixAt fmt at story history) from u
  rest_prefix story sound c u r history from is = parts_prefix story sound (numbers_of c) r.mark_marking r.marking_floor (floor_synced story c u r) history from is u (rest_parts fmt at db story sound c u r)

  -- ---- a run of calls

  module _ (t : Told) (story : Story) (c : Counts) (history : ℕ → Numbers) (receipts : List ℕ) (u : Told) (k : IsDurable fmt at db t story c history receipts u) where
    abbrev P : ℕ → Told → Image → Type 0
    P = PrefixAt fmt at story history

    abbrev Good : (List ℕ → Place) → Type 0
    Good = LogParts fmt at story c.mark c.marking c.floor c.s

    good : (v : Told) (n : ℕ) → length u.calls ≤ n → Good (place_of v) → LeavesNow P n v
    good v n le parts = parts_prefix story k.sound (numbers_of c) k.rest.mark_marking k.rest.marking_floor (floor_synced story c u k.rest) history n (λ m lt. k.now m (omega arith)) v parts

    -- stopped anywhere
    pub stopped : (asks : List Ask) (v : Told) → Safe Good asks u → IsCut asks u v → Leaves P t v
    stopped asks v safe cut = leaves_cut P Good t (length u.calls) good asks u v (omega arith) k.leaves safe cut

    module _ (asks : List Ask) (d : Counts) (safe : Safe Good asks u) (rest : IsAtRest fmt at db story d (asked asks u)) where
      abbrev moment : ℕ
      moment = length (asked asks u).calls

      abbrev later : ℕ → Numbers
      later = since moment (numbers_of d) history

      now_later : (m : ℕ) → moment < m → later m ≡ numbers_of d
      now_later m lt = since_late moment m (numbers_of d) history lt

      leaves_later : Leaves (PrefixAt fmt at story later) t (asked asks u)
      leaves_later = leaves_retold P (PrefixAt fmt at story later) t (asked asks u) (leaves_all P Good t (length u.calls) good asks u (omega arith) k.leaves safe)
          (λ m v image le holds chance. subst (λ x. IsPrefix fmt at story x image) (sym (since_early moment m (numbers_of d) history le)) (holds chance))
          (rest_prefix story k.sound d (asked asks u) rest later moment now_later)

      -- done, with no section more that is synced
      pub goes_on : d.s ≡ c.s → IsDurable fmt at db t story d later receipts (asked asks u)
      goes_on same = record {
        sound = k.sound;
        rest = rest;
        leaves = leaves_later;
        now = now_later;
        each = k.each ∙ sym same;
        given = receipts_kept receipts history moment (numbers_of d) k.given (omega (arith, same, k.each));
      }

      -- done, with one more, whose receipt is of this moment
      pub syncs_one : d.s ≡ c.s + 1 → IsDurable fmt at db t story d later (receipts ++ moment ∷ []) (asked asks u)
      syncs_one more = record {
        sound = k.sound;
        rest = rest;
        leaves = leaves_later;
        now = now_later;
        each = omega (arith, more, k.each, length-append receipts (moment ∷ []));
        given = receipts_more receipts history moment (numbers_of d) k.given (omega (arith, more, k.each));
      }

  -- A marking of the floor begins: from now on the numbers say so.
  pub begins_marking : (t : Told) (story : Story) (c : Counts) (history : ℕ → Numbers) (receipts : List ℕ) (u : Told) → IsDurable fmt at db t story c history receipts u
      → IsDurable fmt at db t story (record c { marking = c.floor }) (since (length u.calls) (numbers_of (record c { marking = c.floor })) history) receipts u
  begins_marking t story c history receipts u k =
      goes_on t story c history receipts u k [] (record c { marking = c.floor }) tt (marking_rest fmt at db story k.sound c u k.rest c.floor (omega (arith, k.rest.mark_marking, k.rest.marking_floor)) (omega arith)) refl

  -- ---- one sealed section more, with no call

  laid_more : (story : Story) (x : Section) (a k : ℕ) → k ≤ length story.sections → laid at (with_section story x) a k ≡ laid at story a k
  laid_more story x a k le = ap (entries_of at.disk_name) (run_more story x a k le)

  prefix_more : (story : Story) (x : Section) (n : Numbers) (image : Image) → IsPrefix fmt at story n image → IsPrefix fmt at (with_section story x) n image
  prefix_more story x n image p =
      let there : n.synced ≤ length story.sections = omega (arith, p.stands.journal.no_less, p.stands.journal.there) in
      record {
        mark_marking = p.mark_marking;
        marking_floor = p.marking_floor;
        floor_synced = p.floor_synced;
        stands = record {
          journal = record {
            from = p.stands.journal.from;
            to = p.stands.journal.to;
            no_gap = p.stands.journal.no_gap;
            no_less = p.stands.journal.no_less;
            no_more = p.stands.journal.no_more;
            there = omega (arith, p.stands.journal.there, length-append story.sections (x ∷ []));
            holds = subst (HasJournal fmt (Rattle.mm_crash.specs.Recovered.journal_of at image)) (sym (run_more story x p.stands.journal.from p.stands.journal.to p.stands.journal.there)) p.stands.journal.holds;
          };
          lsn = p.stands.lsn;
          files = λ file is.
              subst (λ l. DiffersWithin l file (state at (with_section story x) n.floor file) (Rattle.std.specs.FinMap.get image file)) (sym (laid_more story x n.floor n.synced there))
              (subst (λ (f : Files). DiffersWithin (laid at story n.floor n.synced) file (f file) (Rattle.std.specs.FinMap.get image file)) (sym (state_more at story x n.floor (omega (arith, p.floor_synced, there)))) (p.stands.files file is));
        };
        whole = whole_more fmt at db story x n.synced image p.whole;
      }

  -- a section that is sealed behind the others
  pub seals : (t : Told) (story : Story) (c : Counts) (history : ℕ → Numbers) (receipts : List ℕ) (u : Told) → IsDurable fmt at db t story c history receipts u → (x : Section) → IsNext fmt at story x → IsDurable fmt at db t (with_section story x) c history receipts u
  seals t story c history receipts u k x next = record {
    sound = sound_more fmt at db story x k.sound next;
    rest = rest_more fmt at db story x c u k.rest;
    leaves = leaves_map (PrefixAt fmt at story history) (PrefixAt fmt at (with_section story x) history) t u (λ m v image holds chance. prefix_more story x (history m) image (holds chance)) k.leaves;
    now = k.now;
    each = k.each;
    given = k.given;
  }

  -- a recovered disk
  pub starts : (files : Files) (last : ℕ) (u : Told) → IsRecovered fmt at files last u → IsDurable fmt at db u (new_story files last) no_counts at_first [] u
  starts files last u is =
      let kept = kept_start fmt at db files last u is in
      record {
        sound = kept.sound;
        rest = kept.rest;
        leaves = leaves_first (PrefixAt fmt at (new_story files last) at_first) u (rest_prefix (new_story files last) kept.sound no_counts u kept.rest at_first (length u.calls) (λ m lt. refl));
        now = λ m lt. refl;
        each = refl;
        given = λ k lt m later. absurd (omega (arith, lt));
      }

-- How a chain of records is followed: no record is reached twice, since each names the one before it.
use Rattle.std.proofs.Common.{◌≡◌, ℕ, zero, suc, ℤ, pos, negsuc, ◌+◌, ◌-◌, ◌<◌, ◌≤◌, ◌^◌, Bool, true, false, cond, ltb, eqb, List, [], ◌∷◌, ◌++◌, length, get_or, refl, sym, ap, ◌∙◌, arith, subst}
use Rattle.std.specs.Prelude.{Contains, All, ◌||◌, ◌≤ℤ◌}
use Rattle.std.proofs.lemmas.Int.{ints}
use Rattle.mm_frames.specs.RecHeader.{rec_header_of}
use Rattle.mm_frames.specs.declared.rec_header.RecHeader.{RecHeader}
use Rattle.mm_frames.proofs.Again.{rec_header_is}
use Rattle.mm_main.specs.DataFile.{linked}
use Rattle.mm_main.specs.Opening.{IsBehind}
use Rattle.std.specs.List.{IsDistinct, AllByRecursion, list_any}
use Rattle.std.proofs.lemmas.Bool.{eqb-true, false_from_ne_true, ltb-true}
use Rattle.std.proofs.lemmas.List.{get_or_append_left}
use Rattle.std.proofs.Math.Seq.{get_or-append_seam}
use Rattle.std.proofs.lemmas.List.{length_push}
use Rattle.std.proofs.lemmas.List.Elements.{All-from_recursion}
use Rattle.std.proofs.lemmas.Map.Keys.{IsDistinct-from_apart}
use Rattle.std.proofs.lemmas.Map.Steps.{length-le_from_distinct_below}
use Rattle.mm_base.specs.Bytes.{part}
use Rattle.mm_base.specs.Fields.{i32_of}
use Rattle.mm_base.specs.declared.place.DiskLoc.{DiskLoc}
use Rattle.mm_main.specs.declared.chain.Link.{Link}
use Rattle.mm_main.specs.declared.chain.Link.TheVariants.{End, To, Outside}
use Rattle.mm_main.specs.declared.finding.Finding.{Finding}
use Rattle.mm_main.specs.declared.finding.Unreadable.{Unreadable}
use Rattle.mm_main.specs.declared.finding.Unreadable.TheVariants.{Found}
use Rattle.mm_main.specs.declared.finding.What.{What}
use Rattle.std.specs.Prelude.{Err}
use Rattle.mm_main.specs.Findings.{IfFound, to_offset, link_of, link_in, place_link, IsLinked, Leads, IsFollowed, last_or, prev_of}
use Rattle.mm_main.specs.Room.{file_len, extent_at}

-- ---- the last offset

-- what stands for the record before the next one, where these are behind another
abbrev pub after : ℤ → List ℕ → ℤ
after prev [] = prev
after prev (at ∷ ats) = after (pos at) ats

after_last : (at : ℕ) (ats : List ℕ) → after (pos at) ats ≡ pos (last_or at ats)
after_last at [] = refl
after_last at (next ∷ ats) = after_last next ats

pub prev_is : (ats : List ℕ) → prev_of ats ≡ after (negsuc 0) ats
prev_is [] = refl
prev_is (at ∷ ats) = sym (after_last at ats)

-- ---- one record more

pub leads_push : (file : List ℕ) (prev : ℤ) (link : Link) (ats : List ℕ) (at : ℕ) → Leads file prev link ats (To at) → (here : IsLinked file (after prev ats) at) → Leads file prev link (ats ++ at ∷ []) (link_of here.next)
leads_push file prev link [] at leads here = (leads, here, refl)
leads_push file prev link (one ∷ ats) at leads here = (leads.0, leads.1, leads_push file (pos one) (link_of leads.1.next) ats at leads.2 here)

-- ---- no record is reached twice

-- what the record at an offset has for the one before it
abbrev prev_at : List ℕ → ℕ → ℤ
prev_at file at = i32_of (part 12 4 (part at 16 file))

first_prev : (file : List ℕ) (prev : ℤ) (link : Link) (ats : List ℕ) (end : Link) (d : ℕ) → Leads file prev link ats end → 0 < length ats → prev_at file (get_or ats 0 d) ≡ prev
first_prev file prev link [] end d leads some = absurd (omega arith)
first_prev file prev link (at ∷ ats) end d leads some = leads.1.header.1.1.1.0

next_prev : (file : List ℕ) (prev : ℤ) (link : Link) (ats : List ℕ) (end : Link) (d k : ℕ) → Leads file prev link ats end → suc k < length ats → prev_at file (get_or ats (suc k) d) ≡ pos (get_or ats k d)
next_prev file prev link [] end d k leads some = absurd (omega arith)
next_prev file prev link (at ∷ ats) end d zero leads some = first_prev file (pos at) (link_of leads.1.next) ats end d leads.2 (omega arith)
next_prev file prev link (at ∷ ats) end d (suc k) leads some = next_prev file (pos at) (link_of leads.1.next) ats end d k leads.2 (omega arith)

apart : (file : List ℕ) (link : Link) (ats : List ℕ) (end : Link) (d i j : ℕ) → Leads file (negsuc 0) link ats end → i < j → j < length ats → get_or ats i d ≡ get_or ats j d → ⊥
apart file link ats end d i zero leads below inside same = omega arith
apart file link ats end d zero (suc j) leads below inside same =
    let first = first_prev file (negsuc 0) link ats end d leads (omega arith) in
    let second = next_prev file (negsuc 0) link ats end d j leads inside in
    let never : negsuc 0 ≡ pos (get_or ats j d) = sym first ∙ ap (prev_at file) same ∙ second in
    cc
apart file link ats end d (suc i) (suc j) leads below inside same =
    let first = next_prev file (negsuc 0) link ats end d i leads (omega arith) in
    let second = next_prev file (negsuc 0) link ats end d j leads inside in
    let before : pos (get_or ats i d) ≡ pos (get_or ats j d) = sym first ∙ ap (prev_at file) same ∙ second in
    apart file link ats end d i j leads (omega arith) (omega arith) (cc)

-- none of the records of a chain is there twice
pub once : (file : List ℕ) (link : Link) (ats : List ℕ) (end : Link) → Leads file (negsuc 0) link ats end → IsDistinct eqb ats
once file link ats end leads =
    IsDistinct-from_apart eqb ats (λ i j d below inside. false_from_ne_true (eqb (get_or ats i d) (get_or ats j d)) (λ same. apart file link ats end d i j leads below inside (eqb-true (get_or ats i d) (get_or ats j d) same)))

-- a record that is linked behind a chain's first ones is none of them
pub unseen : (file : List ℕ) (link : Link) (ats : List ℕ) (at : ℕ) → Leads file (negsuc 0) link ats (To at) → IsLinked file (prev_of ats) at → Contains ats at → ⊥
unseen file link ats at leads here seen =
    let linked = subst (λ (z : ℤ). IsLinked file z at) (prev_is ats) here in
    let more = leads_push file (negsuc 0) link ats at leads linked in
    apart file link (ats ++ at ∷ []) _ at seen.0 (length ats) more seen.1 (omega (arith, length_push ats at)) (get_or_append_left ats (at ∷ []) at seen.0 seen.1 ∙ seen.2 ∙ sym (get_or-append_seam ats at [] at))

pub followed_first : (file : List ℕ) (first : DiskLoc) → IsFollowed file first [] (place_link first)
followed_first file first = record { leads = refl; once = once file (place_link first) [] (place_link first) refl }

pub followed_more : (file : List ℕ) (first : DiskLoc) (ats : List ℕ) (at : ℕ) (next : ℤ) → IsFollowed file first ats (To at) → (here : IsLinked file (prev_of ats) at) → here.next ≡ next → IsFollowed file first (ats ++ at ∷ []) (link_of next)
followed_more file first ats at next f here is =
    let linked = subst (λ (z : ℤ). (h : IsLinked file z at) × (h.next ≡ next)) (prev_is ats) (here, is) in
    let more = subst (λ (z : ℤ). Leads file (negsuc 0) (place_link first) (ats ++ at ∷ []) (link_of z)) linked.1 (leads_push file (negsuc 0) (place_link first) ats at f.leads linked.0) in
    record { leads = more; once = once file (place_link first) (ats ++ at ∷ []) (link_of next) more }

-- ---- a chain ends: its records are fewer than the bytes of the file

or_cases : (a b : Bool) (q at : ℕ) → eqb q at ≡ a → (a || b) ≡ true → (q ≡ at → q < file_len) → (b ≡ true → q < file_len) → q < file_len
or_cases true b q at test any first rest = first (eqb-true q at test)
or_cases false b q at test any first rest = rest any

below : (file : List ℕ) (prev : ℤ) (link : Link) (ats : List ℕ) (end : Link) (q : ℕ) → Leads file prev link ats end → list_any (eqb q) ats ≡ true → q < file_len
below file prev link [] end q leads any = absurd (cc)
below file prev link (at ∷ ats) end q leads any =
    or_cases (eqb q at) (list_any (eqb q) ats) q at refl any (λ is. omega (arith, leads.1.inside)) (λ rest. below file (pos at) (link_of leads.1.next) ats end q leads.2 rest)

pub few : (file : List ℕ) (first : DiskLoc) (ats : List ℕ) (end : Link) → IsFollowed file first ats end → length ats ≤ file_len
few file first ats end f = length-le_from_distinct_below ats file_len f.once (λ q any. below file (negsuc 0) (place_link first) ats end q f.leads any)

last_below : (file : List ℕ) (prev : ℤ) (link : Link) (ats : List ℕ) (end : Link) (other : ℕ) → Leads file prev link ats end → other ≤ file_len → last_or other ats ≤ file_len
last_below file prev link [] end other leads small = small
last_below file prev link (at ∷ ats) end other leads small = last_below file (pos at) (link_of leads.1.next) ats end at leads.2 (omega (arith, leads.1.inside))

pub last_inside : (file : List ℕ) (first : DiskLoc) (ats : List ℕ) (end : Link) → IsFollowed file first ats end → last_or 0 ats ≤ file_len
last_inside file first ats end f = last_below file (negsuc 0) (place_link first) ats end 0 f.leads (omega arith)

each_inside : (file : List ℕ) (prev : ℤ) (link : Link) (ats : List ℕ) (end : Link) → Leads file prev link ats end → AllByRecursion (λ at. at + 16 ≤ file_len) ats
each_inside file prev link [] end leads = tt
each_inside file prev link (at ∷ ats) end leads = (leads.1.inside, each_inside file (pos at) (link_of leads.1.next) ats end leads.2)

pub all_inside : (file : List ℕ) (first : DiskLoc) (ats : List ℕ) (end : Link) → IsFollowed file first ats end → All (λ at. at + 16 ≤ file_len) ats
all_inside file first ats end f = All-from_recursion (λ at. at + 16 ≤ file_len) ats (each_inside file (negsuc 0) (place_link first) ats end f.leads)

-- ---- the loop that follows a chain

inside_to : (b : Bool) (ofs at : ℕ) → ltb ofs file_len ≡ b → cond b (To ofs) Outside ≡ To at → at < file_len
inside_to true ofs at test is = let same : ofs ≡ at = cc in omega (arith, ltb-true ofs file_len test)
inside_to false ofs at test is = absurd (cc)

pub offset_inside : (z : ℤ) (at : ℕ) → to_offset z ≡ To at → at < file_len
offset_inside (pos ofs) at is = inside_to (ltb ofs file_len) ofs at refl is
offset_inside (negsuc n) at is = absurd (cc)

pub link_inside : (z : ℤ) (at : ℕ) → link_of z ≡ To at → at < file_len
link_inside (pos ofs) at is = offset_inside (pos ofs) at is
link_inside (negsuc zero) at is = absurd (cc)
link_inside (negsuc (suc n)) at is = absurd (cc)

in_inside : (f z : ℤ) (at : ℕ) → link_in f z ≡ To at → at < file_len
in_inside (pos zero) z at is = offset_inside z at is
in_inside (pos (suc n)) z at is = absurd (cc)
in_inside (negsuc zero) z at is = absurd (cc)
in_inside (negsuc (suc n)) z at is = absurd (cc)

-- a chain that is followed so far, whose next record lies in the file
pub record Following (file : List ℕ) (first : DiskLoc) (ats : List ℕ) (link : Link) : Type 0 where
  pub followed : IsFollowed file first ats link
  pub next_inside : (at : ℕ) → link ≡ To at → at < file_len
  pub last_small : last_or 0 ats < 2 ^ 31
  pub count : length ats ≤ file_len

following : (file : List ℕ) (first : DiskLoc) (ats : List ℕ) (link : Link) → IsFollowed file first ats link → ((at : ℕ) → link ≡ To at → at < file_len) → Following file first ats link
following file first ats link f inside = record { followed = f; next_inside = inside; last_small = omega (arith, last_inside file first ats link f); count = few file first ats link f }

pub following_first : (file : List ℕ) (first : DiskLoc) → Following file first [] (place_link first)
following_first file first = following file first [] (place_link first) (followed_first file first) (in_inside first.file first.ofs)

pub following_more : (file : List ℕ) (first : DiskLoc) (ats : List ℕ) (at : ℕ) (next : ℤ) → Following file first ats (To at) → (here : IsLinked file (prev_of ats) at) → here.next ≡ next → Following file first (ats ++ at ∷ []) (link_of next)
following_more file first ats at next f here is = following file first (ats ++ at ∷ []) (link_of next) (followed_more file first ats at next f.followed here is) (link_inside next)

-- ---- a record by its header

header_of : (file : List ℕ) (prev : ℤ) (at : ℕ) (r : RecHeader) → r ≡ rec_header_of (part at 16 file) → (here : IsLinked file prev at) → r ≡ linked here.len prev here.next
header_of file prev at r is here = is ∙ rec_header_is (linked here.len prev here.next) (part at 16 file) here.header

pub behind_of : (file : List ℕ) (prev : ℤ) (at : ℕ) (r : RecHeader) → r ≡ rec_header_of (part at 16 file) → IsLinked file prev at → IsBehind r prev
behind_of file prev at r is here =
    let all = header_of file prev at r is here in
    record {
      long = subst (λ (z : ℤ). pos 32 ≤ℤ z) (sym (ap (λ (x : RecHeader). x.length_with_headers) all)) (omega (arith, ints, here.long));
      of_extent = ap (λ (x : RecHeader). x.extent_ofs) all;
      behind = ap (λ (x : RecHeader). x.prev_ofs) all;
    }

natural : (z : ℤ) → pos 32 ≤ℤ z → (n : ℕ) × (z ≡ pos n) × (32 ≤ n)
natural (pos n) least = (n, refl, omega (arith, ints, least))
natural (negsuc n) least = absurd (omega (arith, ints, least))

pub linked_of : (file : List ℕ) (prev next : ℤ) (at : ℕ) (r : RecHeader) → extent_at ≤ at → at + 16 ≤ file_len → r ≡ rec_header_of (part at 16 file) → IsBehind r prev → r.next_ofs ≡ next → (here : IsLinked file prev at) × (here.next ≡ next)
unfolding rec_header_of
linked_of file prev next at r behind inside is b leads =
    let n = natural r.length_with_headers b.long in (
      record {
        behind = behind;
        inside = inside;
        len = n.0;
        long = n.2;
        next = next;
        header = (
          sym (ap (λ (x : RecHeader). x.length_with_headers) is) ∙ n.1,
          (
            sym (ap (λ (x : RecHeader). x.extent_ofs) is) ∙ b.of_extent,
            (sym (ap (λ (x : RecHeader). x.next_ofs) is) ∙ leads, (sym (ap (λ (x : RecHeader). x.prev_ofs) is) ∙ b.behind, tt)),
          ),
        );
      },
      refl,
    )

next_index : (n : ℕ) → 0 < n → suc (n - 1) ≡ suc n - 1
next_index n some = omega arith

-- the last of some offsets is the one at the last index
pub last_is : (other d : ℕ) (ats : List ℕ) → 0 < length ats → last_or other ats ≡ get_or ats (length ats - 1) d
last_is other d [] some = absurd (omega arith)
last_is other d (at ∷ []) some = refl
last_is other d (at ∷ next ∷ ats) some =
    last_is at d (next ∷ ats) (omega arith) ∙ ap (λ (k : ℕ). get_or (at ∷ next ∷ ats) k d) (next_index (length (next ∷ ats)) (omega arith))

-- a link that leads nowhere in the file and doesn't end the chain leads outside
pub leads_outside : (link : Link) → ((at : ℕ) → link ≡ To at → ⊥) → (link ≡ End → ⊥) → link ≡ Outside
leads_outside End none other = absurd (other refl)
leads_outside (To at) none other = absurd (none at refl)
leads_outside Outside none other = refl

pub if_found : (T : Type 0) (r : Unreadable) (f : Finding) (P : ℕ → What → Type 0) → r ≡ Found f → P f.at f.what → IfFound {T = T} (Err r) P
if_found T r f P is holds = subst (λ (u : Unreadable). IfFound {T = T} (Err u) P) (sym is) holds

pub follow_first : (file : List ℕ) (first : DiskLoc) (ats : List ℕ) (link : Link) → ats ≡ [] → link ≡ place_link first → Following file first ats link
follow_first file first ats link none is =
    subst (λ (xs : List ℕ). Following file first xs link) (sym none) (subst (λ (l : Link). Following file first [] l) (sym is) (following_first file first))

pub follow_step : (file : List ℕ) (first : DiskLoc) (ats : List ℕ) (at : ℕ) (link : Link) (prev next arg : ℤ) → Following file first ats link → link ≡ To at → prev ≡ prev_of ats → (here : IsLinked file prev at) × (here.next ≡ next) → arg ≡ next
    → (new : List ℕ) → new ≡ ats ++ at ∷ [] → (l : Link) → l ≡ link_of arg → Following file first new l
follow_step file first ats at link prev next arg f to is some same new new_is l l_is =
    let here = subst (λ (z : ℤ). (h : IsLinked file z at) × (h.next ≡ next)) is some in
    let more = following_more file first ats at next (subst (λ (k : Link). Following file first ats k) to f) here.0 here.1 in
    subst (λ (xs : List ℕ). Following file first xs l) (sym new_is) (subst (λ (k : Link). Following file first (ats ++ at ∷ []) k) (sym (l_is ∙ ap link_of same)) more)

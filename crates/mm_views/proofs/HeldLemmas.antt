-- What each call leaves in the fields of the views.
use Rattle.std.proofs.Common.{◌≡◌, ℕ, ◌+◌, ◌<◌, ◌≤◌, List, [], ◌∷◌, ◌++◌, Option, Some, None, length, refl, sym, ◌∙◌, ap, subst, true, false}
use Rattle.std.proofs.lemmas.Bool.{false≢true}
use Rattle.std.proofs.lemmas.List.{length-replicate}
use Rattle.std.specs.Prelude.{IsTrue, IsSome, is_some, replicate, unwrap_or}
use Rattle.std.specs.FinMap.{get, empty, insert}
use Rattle.mm_ranges.specs.Places.{Range}
use Rattle.mm_ranges.specs.Room.{shown}
use Rattle.mm_ranges.specs.Limits.{is_file, most_of}
use Rattle.mm_ranges.specs.Overlay.{Image, bytes_at, laid, over_all, over, pieces_of}
use Rattle.mm_ranges.specs.declared.part.Made.{Made}
use Rattle.mm_ranges.specs.declared.part.Part.{Part}
use Rattle.mm_views.specs.State.{State, part_of, PartFits, PartsFit, KeepsLimits, IsSound}
use Rattle.mm_views.specs.Held.{state_of, IsHeld, IsPrepared}
use Rattle.mm_views.specs.declared.parts.Prepared.{Prepared}
use Rattle.mm_views.proofs.Lengths.{limits_put}
use Rattle.mm_views.proofs.Sound.{sound_closed, sound_applied_with, sound_equal, limits_empty, limits_laid, whole_closed}

-- where nothing is prepared no room is owed
pub no_room : (len capacity : ℕ) → IsTrue false → len < capacity
no_room len capacity h = absurd (false≢true h)

-- with nothing made, opened or closed the images are one
pub held_equal : (a b : Image) (ms : List Made) (spans : List Range) (ps : List Part) (len capacity : ℕ) → a ≡ b → KeepsLimits b → ms ≡ [] → shown spans ≡ [] → ps ≡ [] → IsHeld (state_of a b ms spans ps None) None len capacity
held_equal a b ms spans ps len capacity e limits made opened closed = record {
  sound = subst IsSound (sym (λ i. record { shared = a; private = b; made = made i; opened = opened i; closed = closed i; is_ready = false })) (sound_equal a b false e limits);
  tells = tt;
  room = no_room len capacity;
}

pub held_new : (a b : Image) (ms : List Made) (spans : List Range) (ps : List Part) (len capacity : ℕ) → a ≡ empty → b ≡ empty → ms ≡ [] → spans ≡ [] → ps ≡ [] → IsHeld (state_of a b ms spans ps None) None len capacity
held_new a b ms spans ps len capacity ea eb made spanned closed =
    held_equal a b ms spans ps len capacity (ea ∙ sym eb) (subst KeepsLimits (sym eb) limits_empty) made (ap shown spanned) closed

pub held_applied : (image shared private : Image) (ms : List Made) (spans : List Range) (ps rest : List Part) (p : Part) (prepared : Option Prepared) (len capacity : ℕ) → IsSound (state_of shared private ms spans ps prepared) → ps ≡ p ∷ rest → image ≡ over p shared
    → IsHeld (state_of image private ms spans rest None) None len capacity
held_applied image shared private ms spans ps rest p prepared len capacity h e is = record {
  sound = subst (λ (a : Image). IsSound (state_of a private ms spans rest None)) (sym is) (sound_applied_with (state_of shared private ms spans ps prepared) (p ∷ rest) e h);
  tells = tt;
  room = no_room len capacity;
}

-- the oldest closed part can be laid over the shared image
pub oldest_fits : (shared private : Image) (ms : List Made) (spans : List Range) (ps rest : List Part) (p : Part) (prepared : Option Prepared) → IsSound (state_of shared private ms spans ps prepared) → ps ≡ p ∷ rest → PartFits shared p
oldest_fits shared private ms spans ps rest p prepared h e = let fits : PartsFit shared (p ∷ rest) = subst (PartsFit shared) e h.fits in fits.0

pub held_closed : (shared private : Image) (ms ms' : List Made) (spans spans' : List Range) (ps ps' : List Part) (p : Prepared) (prepared prepared' : Option Prepared) (len capacity : ℕ) → IsHeld (state_of shared private ms spans ps prepared) prepared len capacity
    → prepared ≡ Some p → ms' ≡ [] → spans' ≡ [] → ps' ≡ ps ++ p.kept ∷ [] → prepared' ≡ None → (l c : ℕ)
    → IsHeld (state_of shared private ms' spans' ps' prepared') prepared' l c
held_closed shared private ms ms' spans spans' ps ps' p prepared prepared' len capacity h e made spanned closed n l c =
    let s = state_of shared private ms spans ps prepared in
    let kept : p.kept ≡ part_of s = (subst (IsPrepared s) e h.tells).1 in
    let parts : ps' ≡ ps ++ part_of s ∷ [] = closed ∙ ap (λ (q : Part). ps ++ q ∷ []) kept in
    record {
      sound = subst IsSound (sym (λ i. state_of shared private (made i) (spanned i) (parts i) (n i))) (sound_closed s h.sound);
      tells = subst (IsPrepared (state_of shared private ms' spans' ps' prepared')) (sym n) tt;
      room = subst (λ (o : Option Prepared). IsTrue (is_some o) → l < c) (sym n) (no_room l c);
    }

-- the closed parts, laid over the shared image, are the private one
pub held_whole : (shared private : Image) (ms : List Made) (spans : List Range) (ps ps' : List Part) (p : Prepared) (prepared : Option Prepared) (len capacity : ℕ) → IsHeld (state_of shared private ms spans ps prepared) prepared len capacity
    → prepared ≡ Some p → ps' ≡ ps ++ p.kept ∷ [] → over_all ps' shared ≡ private
held_whole shared private ms spans ps ps' p prepared len capacity h e closed =
    let s = state_of shared private ms spans ps prepared in
    let kept : p.kept ≡ part_of s = (subst (IsPrepared s) e h.tells).1 in
    ap (λ (xs : List Part). over_all xs shared) (closed ∙ ap (λ (q : Part). ps ++ q ∷ []) kept) ∙ whole_closed s h.sound

-- what is given is the part of the views
pub held_given : (s : State) (p : Prepared) (prepared : Option Prepared) (len capacity : ℕ) → IsHeld s prepared len capacity → prepared ≡ Some p → p.given ≡ part_of s
held_given s p prepared len capacity h e = (subst (IsPrepared s) e h.tells).0

-- ---- load and fill
pub loaded : (shared private a b : Image) (file len : ℕ) (x y : List ℕ) → shared ≡ private → KeepsLimits private → is_file file ≡ true → len ≤ most_of file → x ≡ replicate len 0 → y ≡ replicate len 0 → a ≡ insert shared file x → b ≡ insert private file y
    → (a ≡ b) × KeepsLimits b
loaded shared private a b file len x y e limits is le ex ey ea eb =
    let fits : length y ≤ most_of file = subst (λ n. n ≤ most_of file) (sym (ap length ey ∙ length-replicate len 0)) le in (
      ea ∙ (λ i. insert (e i) file ((ex ∙ sym ey) i)) ∙ sym eb,
      subst KeepsLimits (sym eb) (limits_put private file y limits is fits),
    )

pub filled : (shared private a b : Image) (file at : ℕ) (bytes : List ℕ) → shared ≡ private → KeepsLimits private → IsSome (get private file) → at + length bytes ≤ length (bytes_at private file) → a ≡ laid file at bytes shared → b ≡ laid file at bytes private
    → (a ≡ b) × KeepsLimits b
filled shared private a b file at bytes e limits there inside ea eb = (
  ea ∙ ap (λ (image : Image). laid file at bytes image) e ∙ sym eb,
  subst KeepsLimits (sym eb) (by_file (get private file) refl there),
)
  where
    by_file : (o : Option (List ℕ)) → get private file ≡ o → IsSome o → KeepsLimits (laid file at bytes private)
    by_file None is some = absurd (false≢true some)
    by_file (Some old) is some =
        limits_laid private file at bytes old is (subst (λ (o : Option (List ℕ)). at + length bytes ≤ length (unwrap_or o [])) is inside) limits

-- ---- ready
pub ready_held : (shared private : Image) (ms : List Made) (spans : List Range) (ps : List Part) (before : Option Prepared) (p : Prepared) (l c len capacity : ℕ) → IsHeld (state_of shared private ms spans ps before) before l c
    → p.given ≡ record { name = []; made = ms; pieces = pieces_of (shown spans) private } → p.kept ≡ record { name = []; made = ms; pieces = pieces_of (shown spans) private } → len < capacity
    → IsHeld (state_of shared private ms spans ps (Some p)) (Some p) len capacity
ready_held shared private ms spans ps before p l c len capacity h given kept room = record {
  sound = record { differs = h.sound.differs; normal = h.sound.normal; inside = h.sound.inside; made = h.sound.made; fits = h.sound.fits; limits = h.sound.limits };
  tells = (given, kept);
  room = λ _. room;
}

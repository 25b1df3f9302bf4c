-- What each call of a draft leaves in its fields.
use Rattle.std.proofs.Common.{◌≡◌, ℕ, ◌+◌, ◌<◌, ◌≤◌, List, [], ◌∷◌, ◌++◌, Bool, Option, Some, None, length, refl, sym, ◌∙◌, ap, subst, arith, true, false, sum_by}
use Rattle.std.proofs.lemmas.List.{reverse-append}
use Rattle.std.specs.Prelude.{is_some, reverse, replicate}
use Rattle.std.specs.FinMap.{get, insert}
use Rattle.mm_ranges.specs.Places.{Range, Covers, is_range, is_normal, inserted, merged, weight_of}
use Rattle.mm_ranges.specs.Room.{shown, has_room}
use Rattle.mm_ranges.specs.Limits.{is_file, most_of, may_be_made}
use Rattle.mm_ranges.specs.Overlay.{Image, IsInside, laid, piece_of}
use Rattle.mm_ranges.specs.declared.part.Made.{Made}
use Rattle.mm_ranges.specs.declared.part.Part.{Part}
use Rattle.mm_ranges.specs.declared.part.Piece.{Piece}
use Rattle.mm_ranges.proofs.Order.{spaced_of_normal}
use Rattle.mm_ranges.proofs.Weights.{weight-merged}
use Rattle.mm_views.specs.Made.{with_one, with_all}
use Rattle.mm_views.specs.State.{State, Drafting, IsSound, IsDraft, IsAdopted, weight_in}
use Rattle.mm_views.specs.Held.{state_of, drafting_at, before_draft, IsHeld, IsDrafted, IsReserved}
use Rattle.mm_views.specs.declared.parts.Prepared.{Prepared}
use Rattle.mm_views.proofs.Making.{length-with_all}
use Rattle.mm_views.proofs.Sound.{written, declared_more, file_added, sound_adopted, draft_back}
use Rattle.mm_views.proofs.HeldLemmas.{no_room}

-- the same views over spans that show the same
pub held_spans : (shared private : Image) (ms : List Made) (spans spans' : List Range) (ps : List Part) (prepared : Option Prepared) (len capacity : ℕ) → shown spans' ≡ shown spans
    → IsHeld (state_of shared private ms spans ps prepared) prepared len capacity → IsHeld (state_of shared private ms spans' ps prepared) prepared len capacity
held_spans shared private ms spans spans' ps prepared len capacity e h =
    subst (λ (rs : List Range). IsHeld (record { shared = shared; private = private; made = ms; opened = rs; closed = ps; is_ready = is_some prepared }) prepared len capacity) (sym e) h

-- a draft over views with this private image
abbrev pub draft_over : Image → Image → Image → List Made → List Range → List Made → List Range → List Part → Option Prepared → Bool → Drafting
draft_over private shared image made declared before spans closed prepared is_reserved =
    record { views = state_of shared private before spans closed prepared; image = image; made = made; declared = declared; is_reserved = is_reserved }

module _ (private shared : Image) (before : List Made) (spans : List Range) (closed : List Part) (prepared : Option Prepared) (len capacity : ℕ) where
  -- A draft that holds over the views is what its fields are seen as.
  pub settled : (image : Image) (saved : List Piece) (made : List Made) (declared : List Range) → IsDraft (reverse saved) (draft_over private shared image made declared before spans closed prepared false)
      → IsHeld (state_of shared private before spans closed prepared) prepared len capacity
      → IsDrafted (drafting_at shared image saved made declared before spans closed prepared false) saved spans None prepared len capacity
      × (drafting_at shared image saved made declared before spans closed prepared false ≡ draft_over private shared image made declared before spans closed prepared false)
  settled image saved made declared h held =
      let e : before_draft saved made image ≡ private = draft_back (reverse saved) (draft_over private shared image made declared before spans closed prepared false) h in (
        record {
          draft = subst (λ (p : Image). IsDraft (reverse saved) (draft_over p shared image made declared before spans closed prepared false)) (sym e) h;
          joins = tt;
          held = subst (λ (p : Image). IsHeld (state_of shared p before spans closed prepared) prepared len capacity) (sym e) held;
        },
        λ i. draft_over (e i) shared image made declared before spans closed prepared false,
      )

module _ (shared image : Image) (saved : List Piece) (made : List Made) (declared : List Range) (before : List Made) (spans : List Range) (closed : List Part) (prepared : Option Prepared) (is_reserved : Bool) (reserved : Option (List Made)) (len capacity : ℕ)
    (h : IsDrafted (drafting_at shared image saved made declared before spans closed prepared is_reserved) saved spans reserved prepared len capacity) where
  private : Image
  private = before_draft saved made image

  -- what a change leaves: the fields hold, and are seen as the draft so changed
  abbrev pub Changed : Image → List Piece → List Made → List Range → Drafting → Type 0
  Changed image' saved' made' declared' d =
      IsDrafted (drafting_at shared image' saved' made' declared' before spans closed prepared false) saved' spans None prepared len capacity
      × (drafting_at shared image' saved' made' declared' before spans closed prepared false ≡ d)

  pub held_written : (image' : Image) (file at : ℕ) (bytes : List ℕ) → image' ≡ laid file at bytes image → 0 < length bytes → Covers declared file at (length bytes)
      → Changed image' saved made declared (record (drafting_at shared image saved made declared before spans closed prepared is_reserved) { image = laid file at bytes image; is_reserved = false })
  held_written image' file at bytes e some covers =
      let d = drafting_at shared image saved made declared before spans closed prepared is_reserved in
      let h' : IsDraft (reverse saved) (record d { image = laid file at bytes image; is_reserved = false }) = written (reverse saved) d file at bytes false h.draft some covers in
      let both = settled (before_draft saved made image) shared before spans closed prepared len capacity image' saved made declared
      (subst (λ (a : Image). IsDraft (reverse saved) (draft_over (before_draft saved made image) shared a made declared before spans closed prepared false)) (sym e) h') h.held in
      (both.0, both.1 ∙ (λ i. draft_over (before_draft saved made image) shared (e i) made declared before spans closed prepared false))

  pub held_declared : (r : Range) (piece : Piece) (saved' : List Piece) (declared' : List Range) → piece ≡ piece_of image r → saved' ≡ saved ++ piece ∷ [] → declared' ≡ inserted r declared → is_range r ≡ true → IsInside image r
      → Changed image saved' made declared' (record (drafting_at shared image saved made declared before spans closed prepared is_reserved) { declared = inserted r declared; is_reserved = false })
  held_declared r piece saved' declared' p e f fits inside =
      let d = drafting_at shared image saved made declared before spans closed prepared is_reserved in
      let turned : reverse saved' ≡ piece_of image r ∷ reverse saved = ap reverse e ∙ reverse-append saved (piece ∷ []) ∙ ap (λ (q : Piece). q ∷ reverse saved) p in
      let h' : IsDraft (piece_of image r ∷ reverse saved) (record d { declared = inserted r declared; is_reserved = false }) = declared_more (reverse saved) d r false h.draft fits inside in
      let both = settled (before_draft saved made image) shared before spans closed prepared len capacity image saved' made declared'
      (subst (λ (ps : List Piece). IsDraft ps (draft_over (before_draft saved made image) shared image made declared' before spans closed prepared false)) (sym turned)
      (subst (λ (rs : List Range). IsDraft (piece_of image r ∷ reverse saved) (draft_over (before_draft saved made image) shared image made rs before spans closed prepared false)) (sym f) h')) h.held in
      (both.0, both.1 ∙ (λ i. draft_over (before_draft saved made image) shared image made (f i) before spans closed prepared false))

  pub held_added : (m : Made) (bytes : List ℕ) (image' : Image) (made' : List Made) → get image m.file ≡ None → may_be_made m ≡ true → is_file m.file ≡ true → length {A = ℕ} (replicate m.len 0) ≤ most_of m.file
      → bytes ≡ replicate m.len 0 → image' ≡ insert image m.file bytes → made' ≡ with_one m made
      → Changed image' saved made' declared (record (drafting_at shared image saved made declared before spans closed prepared is_reserved) { image = insert image m.file (replicate m.len 0); made = with_one m made; is_reserved = false })
  held_added m bytes image' made' none may is le zero e f =
      let d = drafting_at shared image saved made declared before spans closed prepared is_reserved in
      let put : image' ≡ insert image m.file (replicate m.len 0) = e ∙ ap (insert image m.file) zero in
      let h' : IsDraft (reverse saved) (record d { image = insert image m.file (replicate m.len 0); made = with_one m made; is_reserved = false }) = file_added (reverse saved) d m false h.draft none may is le in
      let both = settled (before_draft saved made image) shared before spans closed prepared len capacity image' saved made' declared
      (subst (λ (a : Image). IsDraft (reverse saved) (draft_over (before_draft saved made image) shared a made' declared before spans closed prepared false)) (sym put)
      (subst (λ (ms : List Made). IsDraft (reverse saved) (draft_over (before_draft saved made image) shared (insert image m.file (replicate m.len 0)) ms declared before spans closed prepared false)) (sym f) h')) h.held in
      (both.0, both.1 ∙ (λ i. draft_over (before_draft saved made image) shared (put i) (f i) declared before spans closed prepared false))

  -- memory is taken for `adopt`
  pub held_reserved : (spans' : List Range) (all : List Made) → shown spans' ≡ shown spans → all ≡ with_all before made → has_room spans' declared ≡ true
      → IsDrafted (drafting_at shared image saved made declared before spans' closed prepared true) saved spans' (Some all) prepared len capacity
  held_reserved spans' all e is room = record {
    draft = subst (λ (rs : List Range). IsDraft (reverse saved) (record { views = record { shared = shared; private = before_draft saved made image; made = before; opened = rs; closed = closed; is_ready = is_some prepared }; image = image; made = made; declared = declared; is_reserved = true })) (sym e)
        (record { sound = h.draft.sound; undone = h.draft.undone; saved_inside = h.draft.saved_inside; saved_covers = h.draft.saved_covers; normal = h.draft.normal; inside = h.draft.inside; made = h.draft.made; limits = h.draft.limits });
    joins = (is, room);
    held = held_spans shared (before_draft saved made image) before spans spans' closed prepared len capacity e h.held;
  }

  -- more room changes nothing
  pub held_roomier : (spans' : List Range) → shown spans' ≡ shown spans → ((rs : List Range) → has_room spans rs ≡ true → has_room spans' rs ≡ true)
      → IsDrafted (drafting_at shared image saved made declared before spans' closed prepared is_reserved) saved spans' reserved prepared len capacity
  held_roomier spans' e stays = record {
    draft = subst (λ (rs : List Range). IsDraft (reverse saved) (record { views = record { shared = shared; private = before_draft saved made image; made = before; opened = rs; closed = closed; is_ready = is_some prepared }; image = image; made = made; declared = declared; is_reserved = is_reserved })) (sym e) h.draft;
    joins = roomier reserved h.joins;
    held = held_spans shared (before_draft saved made image) before spans spans' closed prepared len capacity e h.held;
  }
    where
      roomier : (o : Option (List Made)) → IsReserved (drafting_at shared image saved made declared before spans closed prepared is_reserved) spans o → IsReserved (drafting_at shared image saved made declared before spans' closed prepared is_reserved) spans' o
      roomier None j = tt
      roomier (Some all) j = (j.0, stays declared j.1)

  -- the draft is adopted
  pub held_adopted : (all : List Made) (spans' : List Range) (l c : ℕ) → reserved ≡ Some all → shown spans' ≡ merged (shown spans) declared → IsHeld (state_of shared image all spans' closed None) None l c
  held_adopted all spans' l c e opened =
      let joins = subst (IsReserved (drafting_at shared image saved made declared before spans closed prepared is_reserved) spans) e h.joins in
      record {
        sound = subst IsSound (sym (λ i. record { shared = shared; private = image; made = joins.0 i; opened = opened i; closed = closed; is_ready = false }))
            (sound_adopted (reverse saved) (drafting_at shared image saved made declared before spans closed prepared is_reserved) h.draft);
        tells = tt;
        room = no_room l c;
      }

  pub is_adopted : (all : List Made) (spans' : List Range) → reserved ≡ Some all → shown spans' ≡ merged (shown spans) declared
      → IsAdopted (drafting_at shared image saved made declared before spans closed prepared is_reserved) (state_of shared image all spans' closed None)
  is_adopted all spans' e opened =
      let joins = subst (IsReserved (drafting_at shared image saved made declared before spans closed prepared is_reserved) spans) e h.joins in
      record { shared = refl; private = refl; made = joins.0; opened = opened; closed = refl; is_ready = refl }

-- room for the declared ranges was taken
pub room_taken : (d : Drafting) (spans : List Range) (reserved : Option (List Made)) (all : List Made) → IsReserved d spans reserved → reserved ≡ Some all → has_room spans d.declared ≡ true
room_taken d spans reserved all h e = (subst (IsReserved d spans) e h).1

-- the weight rises by no more than what was made and declared weighs
pub weight_adopted : (d : Drafting) (s : State) → IsAdopted d s → is_normal d.views.opened ≡ true → is_normal d.declared ≡ true
    → weight_in s.made s.opened ≤ weight_in d.views.made d.views.opened + weight_in d.made d.declared
weight_adopted d s h a b =
    let ranges = weight-merged d.views.opened d.declared (spaced_of_normal d.views.opened a) (spaced_of_normal d.declared b) in
    let opened = ap (sum_by weight_of) h.opened in
    let made = ap (λ (ms : List Made). length ms) h.made ∙ length-with_all d.views.made d.made in
    omega arith

-- the draft is as new
pub held_drafted : (s : State) (shared private : Image) (before : List Made) (spans : List Range) (closed : List Part) (prepared : Option Prepared) (saved : List Piece) (made : List Made) (declared : List Range) (len capacity : ℕ)
    → IsHeld (state_of shared private before spans closed prepared) prepared len capacity → IsDraft [] (record { views = state_of shared private before spans closed prepared; image = private; made = []; declared = []; is_reserved = false })
    → saved ≡ [] → made ≡ [] → declared ≡ [] → IsDrafted (drafting_at shared private saved made declared before spans closed prepared false) saved spans None prepared len capacity
held_drafted s shared private before spans closed prepared saved made declared len capacity held h es em ed =
    subst (λ (ps : List Piece). IsDrafted (drafting_at shared private ps made declared before spans closed prepared false) ps spans None prepared len capacity) (sym es)
    (subst (λ (ms : List Made). IsDrafted (drafting_at shared private [] ms declared before spans closed prepared false) [] spans None prepared len capacity) (sym em)
    (subst (λ (rs : List Range). IsDrafted (drafting_at shared private [] [] rs before spans closed prepared false) [] spans None prepared len capacity) (sym ed)
    (record { draft = h; joins = tt; held = held })))

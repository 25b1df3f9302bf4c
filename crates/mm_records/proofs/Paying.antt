-- Details are put back and a payload is written.
use Rattle.std.proofs.Common.{◌≡◌, ℕ, ◌+◌, ◌<◌, ◌≤◌, List, length, Some, refl, sym, ◌∙◌, ap, subst, arith}
use Rattle.std.specs.FinMap.{get, insert}
use Rattle.mm_base.specs.Bytes.{overwritten}
use Rattle.mm_ranges.specs.Overlay.{Image, bytes_at}
use Rattle.mm_frames.specs.declared.details.Details.{Details}
use Rattle.mm_nstable.specs.Nodes.{name_in, node_at, IsTable, SameNames}
use Rattle.mm_nstable.specs.Table.{Held, table_of}
use Rattle.mm_links.specs.Links.{Place}
use Rattle.mm_extents.specs.Changes.{loc, len_of}
use Rattle.mm_records.specs.Constants.{constants_of, SameConstants}
use Rattle.mm_records.specs.Shape.{Shape}
use Rattle.mm_records.specs.Stands.{Stands, IsOwn, ns_in}
use Rattle.mm_records.specs.Map.{live_at, name_at, HasRecord, IsRewritten}
use Rattle.mm_records.specs.InHand.{StandsWith}
use Rattle.mm_records.proofs.Owning.{Owns, owns}
use Rattle.mm_records.proofs.PutBack.{put_back, constants_again}

module _ (image : Image) (free : List ℕ) (s : Shape) (node : ℕ) (d : Details) (st : StandsWith image free s node d) (p : Place) (room : List ℕ) (lv : live_at s (name_at image node) p ≡ Some room) (mid : Image)
    (lengths : (f : ℕ) → len_of mid f ≡ len_of image f) (files : (f : ℕ) → f < 8 → bytes_at mid f ≡ bytes_at image f)
    (table : IsTable (ns_in image) → table_of (ns_in mid) ≡ insert (table_of (ns_in image)) (name_in (node_at (ns_in image) node)) (record { node = node; details = d })) (kept : IsTable (ns_in image) → IsTable (ns_in mid)) (names : SameNames (ns_in image) (ns_in mid)) where
  stands : Stands mid free s
  stands = put_back image free s node d st mid lengths files (table st.table) (kept st.table)

  name_same : name_at mid node ≡ name_at image node
  name_same = names.names node st.is_node.used

  found : HasRecord mid free s node p (loc p) room
  found = record { stands = stands; is_node = record { used = names.used node ∙ st.is_node.used; isnt_free = λ e. st.is_node.isnt_free (sym name_same ∙ e) }; named = refl; live = ap (λ (n : List ℕ). live_at s n p) name_same ∙ lv }

  pub owned : Owns mid free s node p room
  owned = owns mid free s node p (loc p) room found

  pub write_asks : (n : ℕ) → n ≤ length room → (own : IsOwn mid free s node p) × (0 + n ≤ length own.room)
  write_asks n le = (owned.own, (let e = ap (λ (xs : List ℕ). length xs) owned.room_is in omega (arith, le, e)))

  pub paid : (new : Image) (bytes : List ℕ) → length bytes ≤ length room
      → ((own : IsOwn mid free s node p) → 0 + length bytes ≤ length own.room → (t : Shape) × (Stands new free t × IsRewritten s t p (overwritten 0 bytes own.room)))
      → (t : Shape) × (Stands new free t × IsRewritten s t p (overwritten 0 bytes room))
  unfolding write_asks
  paid new bytes le f =
      let x = f owned.own (write_asks (length bytes) le).1 in
      (x.0, (x.1.0, subst (λ (xs : List ℕ). IsRewritten s x.0 p (overwritten 0 bytes xs)) owned.room_is x.1.1))

  pub paid_constants : (new : Image) → ns_in new ≡ ns_in mid → ((held : Held) → get (table_of (ns_in image)) (name_at image node) ≡ Some held → constants_of held.details ≡ constants_of d) → SameConstants (ns_in image) (ns_in new)
  paid_constants new e c = subst (λ (ns : List ℕ). SameConstants (ns_in image) ns) (sym e) (constants_again image free s node d st mid lengths files (table st.table) (kept st.table) c)

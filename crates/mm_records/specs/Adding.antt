-- What adding a record makes of a shape.
use Rattle.std.specs.Prelude.{◌≡◌, ℕ, ◌+◌, ◌-◌, ◌<◌, ◌≤◌, ◌&&◌, ◌==◌, not, nat_lt, false, true, if◌then◌else◌, List, ◌∷◌, length, take, Some, None, Bool}
use Rattle.mm_links.specs.Links.{Place, same, has, appended, without}
use Rattle.mm_extents.specs.Changes.{behind_of}
use Rattle.mm_records.specs.Constants.{is_name}
use Rattle.mm_records.specs.Shape.{Shape, list_for}
use Rattle.mm_records.specs.Map.{live_at, SameLayout}
use Rattle.mm_records.specs.Shortening.{IsParted}

-- how many bytes a record of r bytes takes of a block of n: all, where the rest has fewer than 32
abbrev pub kept_of : ℕ → ℕ → ℕ
kept_of r n = if nat_lt n (r + 32) then n else r

-- the rest of a block of n bytes at p, of which r were asked, is a block of the namespace in list i
abbrev pub is_rest : List ℕ → ℕ → ℕ → List ℕ → ℕ → Bool
is_rest name r n m i = not (nat_lt n (r + 32)) && (is_name m name && i == list_for (n - r))

-- The record at p keeps of its room what r bytes need, and where the rest has 32 bytes it heads the list of its length. Every other record stays.
pub record IsCut (s t : Shape) (name : List ℕ) (p : Place) (r : ℕ) (room : List ℕ) : Type 0 where
  pub here : live_at t name p ≡ Some (take (kept_of r (16 + length room) - 16) room)
  pub others : (m : List ℕ) (q : Place) → same p q ≡ false → live_at t m q ≡ live_at s m q
  pub extents : (m : List ℕ) → t.extents m ≡ s.extents m
  pub records : (e : Place) → t.records e ≡ s.records e
  pub lists : (m : List ℕ) (i : ℕ) → t.lists m i ≡ (if is_rest name r (16 + length room) m i then behind_of p r ∷ s.lists m i else s.lists m i)
  pub whole : 16 + length room < r + 32 → SameLayout s t
  pub parted : r + 32 ≤ 16 + length room → IsParted s t p r (16 + length room)

-- The namespace has one more record, at p: in a block of n bytes, of which r were asked, behind the last record of its extent. The front of
-- its room is the payload. The block is on no list any more, and where the rest of it has 32 bytes, that heads the list of its length.
-- Every other record of all namespaces stays, and so do all other extents and blocks, with their lengths.
pub record IsAdded (s t : Shape) (name : List ℕ) (p : Place) (r n : ℕ) (payload : List ℕ) : Type 0 where
  pub fresh : (m : List ℕ) → live_at s m p ≡ None
  pub room : List ℕ
  pub here : live_at t name p ≡ Some room
  pub front : take (length payload) room ≡ payload
  pub long : 16 + length room ≡ kept_of r n
  pub others : (m : List ℕ) (q : Place) → same p q ≡ false → live_at t m q ≡ live_at s m q
  pub of : Place
  pub of_name : has (s.extents name) of ≡ true
  pub extents : (m : List ℕ) → t.extents m ≡ s.extents m
  pub records : (e : Place) → t.records e ≡ (if same e of then appended (s.records e) p else s.records e)
  pub lists : (m : List ℕ) (i : ℕ) → t.lists m i ≡ (if is_rest name r n m i then behind_of p r ∷ without p (s.lists m i) else without p (s.lists m i))
  pub whole : n < r + 32 → SameLayout s t
  pub parted : r + 32 ≤ n → IsParted s t p r n

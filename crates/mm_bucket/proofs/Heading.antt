-- A header in front of pairs, and one pair among the others.
use Rattle.std.proofs.Common.{◌≡◌, ℕ, zero, suc, ◌+◌, ◌-◌, ◌*◌, ◌<◌, ◌≤◌, pos, List, [], ◌∷◌, length, get_or, sym, ap, ◌∙◌, subst, to_z, w32, arith}
use Rattle.std.proofs.lemmas.Int.{to_z_pos}
use Rattle.std.specs.List.{AllByRecursion}
use Rattle.mm_base.specs.Bytes.{part, Puts}
use Rattle.mm_base.specs.Fields.{u32_of}
use Rattle.mm_base.specs.declared.place.DiskLoc.{DiskLoc}
use Rattle.mm_base.proofs.Parts.{part_front, length-overwritten}
use Rattle.mm_frames.specs.BucketHeader.{bucket_header_of, bucket_header_bytes}
use Rattle.mm_frames.specs.declared.bucket_header.BucketHeader.{BucketHeader}
use Rattle.mm_frames.specs.declared.key_node.KeyNode.{KeyNode}
use Rattle.mm_frames.specs.Numbers.{bucket_flags}
use Rattle.mm_bucket.specs.Pairs.{Pair, Contents, IsKey, HasKey, key_len, size, Fits, blank}
use Rattle.mm_bucket.specs.Layout.{IsAt, AreAt, slots, IsWithin, Apart, Laid, Built, Held, header_of, pairs_in}
use Rattle.mm_bucket.proofs.Keys.{key_some, key_counted}
use Rattle.mm_bucket.proofs.Laying.{node_at, slots_same, laid_same, read_all}

-- ---- a header is written

pub laid_behind : (old new : List ℕ) (begin : ℕ) (ps : List Pair) → length new ≡ 8192 → ((q m : ℕ) → 40 ≤ q → part q m new ≡ part q m old) → Laid old begin ps → Laid new begin ps
laid_behind old new begin ps whole same l =
    let stay = slots_same old new 40 ps (λ q n low r. same q n low) in
    record {
      whole = whole;
      nodes = laid_same old new 40 begin ps (λ q n low r. same q n low) (λ q n low r. same q n (omega (arith, low))) l.within l.nodes;
      keys = l.keys;
      begins = l.begins;
      room = l.room;
      within = subst (AllByRecursion (IsWithin begin 8152)) (sym stay) l.within;
      apart = subst Apart (sym stay) l.apart;
    }

begin_is : (begin k : ℕ) → begin + k ≡ 8152 → begin ≡ 8152 - k
begin_is begin k e = omega (arith, e)

-- the header as the code makes it: numbers that are cast
pub header_is : (n begin : ℕ) (parent next : DiskLoc) (ps : List Pair) → n ≡ length ps → begin + key_len ps ≡ 8152 → 18 * n ≤ begin
    → record { parent = parent; next_child = next; was_size = 0; reserved_size = 0; flags = bucket_flags; empty_size = to_z w32 (begin - 18 * n); top_size = to_z w32 (8152 - begin); n = to_z w32 n }
    ≡ header_of (record { parent = parent; pairs = ps; next = next })
header_is n begin parent next ps many begins room =
    let empty : to_z w32 (begin - 18 * n) ≡ pos (8152 - size ps) = to_z_pos w32 (begin - 18 * n) (omega (arith, begins)) ∙ ap pos (let e : begin - 18 * n ≡ 8152 - size ps = omega (arith, many, begins) in e) in
    let top : to_z w32 (8152 - begin) ≡ pos (key_len ps) = to_z_pos w32 (8152 - begin) (omega arith) ∙ ap pos (let e : 8152 - begin ≡ key_len ps = omega (arith, begins) in e) in
    let all : to_z w32 n ≡ pos (length ps) = to_z_pos w32 n (omega (arith, begins, room)) ∙ ap pos many in
    λ i. record { parent = parent; next_child = next; was_size = 0; reserved_size = 0; flags = bucket_flags; empty_size = empty i; top_size = top i; n = all i }

pub headed : (old new : List ℕ) (n begin : ℕ) (b : Contents) (h : BucketHeader) → h ≡ header_of b → Puts 40 bucket_header_bytes bucket_header_of 0 h old new → Built old n begin b.pairs → Held new n begin b
headed old new n begin b h is put built =
    let l = built.laid in
    let whole : length new ≡ 8192 = ap length put.spelled ∙ (length-overwritten 0 _ old (omega (arith, put.long, l.whole)) ∙ l.whole) in
    record {
      spelled = record {
        header = put.again ∙ is;
        laid = subst (λ (z : ℕ). Laid new z b.pairs) (begin_is begin (key_len b.pairs) l.begins) (laid_behind old new begin b.pairs whole (λ q m low. put.elsewhere.behind q m low) l);
      };
      many = built.many;
      begins = l.begins;
    }

-- ---- what is held, and what is built

pub built_from : (bytes : List ℕ) (n begin : ℕ) (b : Contents) → Held bytes n begin b → Built bytes n begin b.pairs
built_from bytes n begin b h = record {
  laid = subst (λ (z : ℕ). Laid bytes z b.pairs) (sym (begin_is begin (key_len b.pairs) h.begins)) h.spelled.laid;
  many = h.many;
}

pub fits_always : (bytes : List ℕ) (n begin : ℕ) (b : Contents) → Held bytes n begin b → Fits b.pairs
fits_always bytes n begin b h = omega (arith, h.begins, h.many, h.spelled.laid.room)

-- the view of what is held
pub seen : (bytes : List ℕ) (n begin : ℕ) (b : Contents) → Held bytes n begin b → pairs_in bytes 40 n ≡ b.pairs
seen bytes n begin b h = ap (pairs_in bytes 40) h.many ∙ read_all bytes 40 b.pairs h.spelled.laid.keys h.spelled.laid.nodes

pub held_of : (bytes : List ℕ) (n begin : ℕ) (b : Contents) → Held bytes n begin b → Held bytes n begin (record b { pairs = pairs_in bytes 40 n })
held_of bytes n begin b h = subst (λ (ps : List Pair). Held bytes n begin (record b { pairs = ps })) (sym (seen bytes n begin b h)) h

-- ---- one pair among the others

pub record Found (bytes : List ℕ) (node : KeyNode) (begin : ℕ) (p : Pair) : Type 0 where
  pub is : IsAt bytes node p
  pub within : IsWithin begin 8152 (node.key_ofs, length p.key)
  pub key : IsKey p.key

pub found : (bytes : List ℕ) (at begin : ℕ) (ps : List Pair) (i : ℕ) (d : Pair) → i < length ps → AllByRecursion HasKey ps → AllByRecursion (IsWithin begin 8152) (slots bytes at ps) → AreAt bytes at ps
    → Found bytes (node_at bytes (at + 18 * i)) begin (get_or ps i d)
found bytes at begin [] i d l k w h = absurd (omega (arith, l))
found bytes at begin (p ∷ ps) zero d l k w h =
    let e : at ≡ at + 18 * 0 = omega arith in
    subst (λ (z : ℕ). Found bytes (node_at bytes z) begin p) e (record { is = h.0; within = w.0; key = k.0 })
found bytes at begin (p ∷ ps) (suc i) d l k w h =
    let e : at + 18 + 18 * i ≡ at + 18 * suc i = omega arith in
    subst (λ (z : ℕ). Found bytes (node_at bytes z) begin (get_or ps i d)) e (found bytes (at + 18) begin ps i d (omega (arith, l)) k.1 w.1 h.1)

-- a pair's node and key, as they are read
pub record HasPair (bytes : List ℕ) (node : KeyNode) (p : Pair) : Type 0 where
  pub left : node.left ≡ p.left
  pub rec : node.rec ≡ p.rec
  pub front : 40 + node.key_ofs + 4 ≤ 8192
  pub whole : 40 + node.key_ofs + u32_of (part (40 + node.key_ofs) 4 bytes) ≤ 8192
  pub key : part (40 + node.key_ofs) (u32_of (part (40 + node.key_ofs) 4 bytes)) bytes ≡ p.key
  pub good : IsKey p.key

pub counted_at : (bytes : List ℕ) (at : ℕ) (key : List ℕ) → IsKey key → part at (length key) bytes ≡ key → u32_of (part at 4 bytes) ≡ length key
counted_at bytes at key k e = ap u32_of (sym (part_front 4 at (length key) bytes (omega (arith, key_some key k))) ∙ ap (part 0 4) e) ∙ key_counted key k

pub has_pair : (bytes : List ℕ) (n begin i : ℕ) (b : Contents) → Held bytes n begin b → i < length b.pairs → HasPair bytes (node_at bytes (40 + 18 * i)) (get_or b.pairs i blank)
has_pair bytes n begin i b h l =
    let p = get_or b.pairs i blank in
    let node = node_at bytes (40 + 18 * i) in
    let laid = h.spelled.laid in
    let f = found bytes 40 (8152 - key_len b.pairs) b.pairs i blank l laid.keys laid.within laid.nodes in
    let len : u32_of (part (40 + node.key_ofs) 4 bytes) ≡ length p.key = counted_at bytes (40 + node.key_ofs) p.key f.key f.is.key in
    record {
      left = f.is.left;
      rec = f.is.rec;
      front = omega (arith, f.within.1, key_some p.key f.key);
      whole = omega (arith, f.within.1, len);
      key = ap (λ (z : ℕ). part (40 + node.key_ofs) z bytes) len ∙ f.is.key;
      good = f.key;
    }

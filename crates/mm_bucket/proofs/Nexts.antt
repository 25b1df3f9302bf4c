-- One pair behind those that are known, as it is read.
use Rattle.std.proofs.Common.{◌≡◌, ℕ, zero, suc, ◌+◌, ◌-◌, ◌*◌, ◌<◌, ◌≤◌, Bool, false, ◌||◌, List, [], ◌∷◌, ◌++◌, length, drop, replicate, refl, sym, ap, ◌∙◌, subst, arith}
use Rattle.std.proofs.lemmas.Bool.{eqb-true}
use Rattle.std.proofs.lemmas.List.{length-take, length-drop}
use Rattle.std.specs.Prelude.{IsTrue, nat_eq}
use Rattle.std.specs.List.{AllByRecursion}
use Rattle.mm_base.specs.Bytes.{part}
use Rattle.mm_base.specs.Fields.{u32_of}
use Rattle.mm_base.proofs.Parts.{length-part}
use Rattle.mm_frames.specs.declared.key_node.KeyNode.{KeyNode}
use Rattle.mm_bucket.specs.Pairs.{Pair, IsKey, HasKey, key_len}
use Rattle.mm_bucket.specs.Layout.{IsAt, AreAt, Slot, slots, IsWithin, AreApart, Apart, Laid, pair_of, pairs_in}
use Rattle.mm_bucket.specs.Marks.{mark, AreFree, is_in, AreMarked, IsKeyAt, Front}
use Rattle.mm_bucket.proofs.Keys.{key_some}
use Rattle.mm_bucket.proofs.Laying.{node_at, all_more, apart_more, laid_more, slots_more, length-pairs_in}
use Rattle.mm_bucket.proofs.Heading.{counted_at}
use Rattle.mm_bucket.proofs.Fitting.{key_len-append}
use Rattle.mm_bucket.proofs.Prefix.{all_last, apart_last, laid_last, pairs_more}
use Rattle.mm_bucket.proofs.Marking.{apart_from, free_from, marked_more, slots_long}

-- ---- a key at an offset

part_inside : (at n : ℕ) (bytes : List ℕ) → 0 < n → length (part at n bytes) ≡ n → at + n ≤ length bytes
unfolding part
part_inside at n bytes p e = omega (arith, e, p, length-take n (drop at bytes), length-drop at bytes)

pub key_inside : (bytes : List ℕ) (ofs : ℕ) (key : List ℕ) → length bytes ≡ 8192 → IsKeyAt bytes ofs key → 40 + ofs + length key ≤ 8192
key_inside bytes ofs key whole k =
    let in_bytes = part_inside (40 + ofs) (length key) bytes (omega (arith, key_some key k.good)) (ap length k.here) in
    omega (arith, whole, in_bytes)

pub key_count : (bytes : List ℕ) (ofs : ℕ) (key : List ℕ) → IsKeyAt bytes ofs key → u32_of (part (40 + ofs) 4 bytes) ≡ length key
key_count bytes ofs key k = counted_at bytes (40 + ofs) key k.good k.here

-- ---- the pair of a node

abbrev pub pair_here : List ℕ → ℕ → Pair
pair_here bytes i = pair_of bytes (node_at bytes (40 + 18 * i))

abbrev pub ofs_here : List ℕ → ℕ → ℕ
ofs_here bytes i = (node_at bytes (40 + 18 * i)).key_ofs

abbrev pub slots_to : List ℕ → ℕ → List Slot
slots_to bytes i = slots bytes 40 (pairs_in bytes 40 i)

pair_left : (bytes : List ℕ) (node : KeyNode) → node.left ≡ (pair_of bytes node).left
unfolding pair_of
pair_left bytes node = refl

pair_rec : (bytes : List ℕ) (node : KeyNode) → node.rec ≡ (pair_of bytes node).rec
unfolding pair_of
pair_rec bytes node = refl

pub pair_key : (bytes : List ℕ) (node : KeyNode) → (pair_of bytes node).key ≡ part (40 + node.key_ofs) (u32_of (part (40 + node.key_ofs) 4 bytes)) bytes
unfolding pair_of
pair_key bytes node = refl

at_all : (bytes : List ℕ) (i : ℕ) → 40 + 18 * length (pairs_in bytes 40 i) ≡ 40 + 18 * i
at_all bytes i = ap (λ (z : ℕ). 40 + 18 * z) (length-pairs_in bytes 40 i)

pub slots_next : (bytes : List ℕ) (i : ℕ) → slots_to bytes (i + 1) ≡ slots_to bytes i ++ (ofs_here bytes i, length (pair_here bytes i).key) ∷ []
slots_next bytes i =
    ap (slots bytes 40) (pairs_more bytes 40 i)
    ∙ (slots_more bytes 40 (pairs_in bytes 40 i) (pair_here bytes i)
    ∙ ap (λ (z : ℕ). slots_to bytes i ++ ((node_at bytes z).key_ofs, length (pair_here bytes i).key) ∷ []) (at_all bytes i))

-- what was read of the pair at the node
pub record Read (bytes : List ℕ) (i n : ℕ) : Type 0 where
  pub key : IsKeyAt bytes (ofs_here bytes i) (part (40 + ofs_here bytes i) n bytes)
  pub count : n ≡ u32_of (part (40 + ofs_here bytes i) 4 bytes)
  pub inside : ofs_here bytes i + n ≤ 8152
  pub whole : length bytes ≡ 8192

-- the same for the offset that the code has
pub read_of : (bytes : List ℕ) (i n ofs : ℕ) → ofs ≡ ofs_here bytes i → IsKeyAt bytes ofs (part (40 + ofs) n bytes) → n ≡ u32_of (part (40 + ofs) 4 bytes) → ofs + n ≤ 8152 → length bytes ≡ 8192 → Read bytes i n
read_of bytes i n ofs e k c le w = record {
  key = subst (λ (z : ℕ). IsKeyAt bytes z (part (40 + z) n bytes)) e k;
  count = subst (λ (z : ℕ). n ≡ u32_of (part (40 + z) 4 bytes)) e c;
  inside = omega (arith, le, e);
  whole = w;
}

key_is : (bytes : List ℕ) (i n : ℕ) → Read bytes i n → (pair_here bytes i).key ≡ part (40 + ofs_here bytes i) n bytes
key_is bytes i n r = pair_key bytes (node_at bytes (40 + 18 * i)) ∙ ap (λ (z : ℕ). part (40 + ofs_here bytes i) z bytes) (sym r.count)

pub len_is : (bytes : List ℕ) (i n : ℕ) → Read bytes i n → length (pair_here bytes i).key ≡ n
len_is bytes i n r = ap length (key_is bytes i n r) ∙ length-part (40 + ofs_here bytes i) n bytes (omega (arith, r.inside, r.whole))

pub long_read : (bytes : List ℕ) (i n : ℕ) → Read bytes i n → 0 < n
long_read bytes i n r = omega (arith, key_some _ r.key.good, length-part (40 + ofs_here bytes i) n bytes (omega (arith, r.inside, r.whole)))

slots_read : (bytes : List ℕ) (i n : ℕ) → Read bytes i n → slots_to bytes (i + 1) ≡ slots_to bytes i ++ (ofs_here bytes i, n) ∷ []
slots_read bytes i n r = slots_next bytes i ∙ ap (λ (z : ℕ). slots_to bytes i ++ (ofs_here bytes i, z) ∷ []) (len_is bytes i n r)

pub grown : (bytes : List ℕ) (begin i n : ℕ) → Read bytes i n → begin ≤ ofs_here bytes i → AllByRecursion (λ t. AreApart t (ofs_here bytes i, n)) (slots_to bytes i) → Front bytes begin i → Front bytes begin (i + 1)
grown bytes begin i n r low free f =
    let node = node_at bytes (40 + 18 * i) in
    let p = pair_here bytes i in
    let ps = pairs_in bytes 40 i in
    let one : IsAt bytes node p = record {
      left = pair_left bytes node;
      rec = pair_rec bytes node;
      key = ap (λ (z : ℕ). part (40 + node.key_ofs) z bytes) (len_is bytes i n r) ∙ sym (key_is bytes i n r);
    } in
    let there : IsAt bytes (node_at bytes (40 + 18 * length ps)) p = subst (λ (z : ℕ). IsAt bytes (node_at bytes z) p) (sym (at_all bytes i)) one in
    let more = sym (pairs_more bytes 40 i) in
    let slots_are = sym (slots_read bytes i n r) in
    record {
      nodes = subst (AreAt bytes 40) more (laid_more bytes 40 ps p f.nodes there);
      keys = subst (AllByRecursion HasKey) more (all_more HasKey ps p f.keys (subst IsKey (sym (key_is bytes i n r)) r.key.good));
      within = subst (AllByRecursion (IsWithin begin 8152)) slots_are (all_more (IsWithin begin 8152) (slots_to bytes i) (node.key_ofs, n) f.within (low, r.inside));
      apart = subst Apart slots_are (apart_more (slots_to bytes i) (node.key_ofs, n) f.apart free);
    }

pub marked_next : (bytes : List ℕ) (i n : ℕ) (old new : List Bool) → Read bytes i n → AreMarked old (slots_to bytes i) → ((q : ℕ) → mark new q ≡ (is_in (ofs_here bytes i) n q || mark old q)) → AreMarked new (slots_to bytes (i + 1))
marked_next bytes i n old new r m f = subst (AreMarked new) (sym (slots_read bytes i n r)) (marked_more old new (slots_to bytes i) (ofs_here bytes i, n) m f)

pub apart_read : (bytes : List ℕ) (begin i n : ℕ) (old : List Bool) → Read bytes i n → Front bytes begin i → AreMarked old (slots_to bytes i) → AreFree old (ofs_here bytes i) n → AllByRecursion (λ t. AreApart t (ofs_here bytes i, n)) (slots_to bytes i)
apart_read bytes begin i n old r f m free =
    apart_from old (slots_to bytes i) (ofs_here bytes i, n) (long_read bytes i n r) (slots_long bytes 40 (pairs_in bytes 40 i) f.keys) r.inside m free

-- ---- what the next pair is, where it is laid out

pub record Next (bytes : List ℕ) (begin i : ℕ) : Type 0 where
  pub key : IsKeyAt bytes (ofs_here bytes i) (pair_here bytes i).key
  pub low : begin ≤ ofs_here bytes i
  pub apart : AllByRecursion (λ t. AreApart t (ofs_here bytes i, length (pair_here bytes i).key)) (slots_to bytes i)

pub next_of : (bytes : List ℕ) (begin i : ℕ) → Front bytes begin (i + 1) → Next bytes begin i
next_of bytes begin i f =
    let p = pair_here bytes i in
    let ps = pairs_in bytes 40 i in
    let more = pairs_more bytes 40 i in
    let there = laid_last bytes 40 ps p (subst (AreAt bytes 40) more f.nodes) in
    let one : IsAt bytes (node_at bytes (40 + 18 * i)) p = subst (λ (z : ℕ). IsAt bytes (node_at bytes z) p) (at_all bytes i) there in
    let s : Slot = (ofs_here bytes i, length p.key) in
    record {
      key = record { good = all_last HasKey ps p (subst (AllByRecursion HasKey) more f.keys); here = one.key };
      low = (all_last (IsWithin begin 8152) (slots_to bytes i) s (subst (AllByRecursion (IsWithin begin 8152)) (slots_next bytes i) f.within)).0;
      apart = apart_last (slots_to bytes i) s (subst Apart (slots_next bytes i) f.apart);
    }

-- a key that was read is then free
pub free_next : (bytes : List ℕ) (begin i n : ℕ) (old : List Bool) → Read bytes i n → AreMarked old (slots_to bytes i) → Front bytes begin (i + 1) → AreFree old (ofs_here bytes i) n
free_next bytes begin i n old r m f =
    let x = next_of bytes begin i f in
    free_from old (slots_to bytes i) (ofs_here bytes i, n) r.inside m (subst (λ (z : ℕ). AllByRecursion (λ t. AreApart t (ofs_here bytes i, z)) (slots_to bytes i)) (len_is bytes i n r) x.apart)

pub key_len-next : (bytes : List ℕ) (i : ℕ) → key_len (pairs_in bytes 40 (i + 1)) ≡ key_len (pairs_in bytes 40 i) + length (pair_here bytes i).key
key_len-next bytes i = ap key_len (pairs_more bytes 40 i) ∙ (key_len-append (pairs_in bytes 40 i) (pair_here bytes i ∷ []) ∙ omega arith)

pub mark_none : (n q : ℕ) → mark (replicate n false) q ≡ false
mark_none zero q = refl
mark_none (suc n) zero = refl
mark_none (suc n) (suc q) = mark_none n q

-- ---- all pairs

pub laid_from : (bytes : List ℕ) (begin n : ℕ) → length bytes ≡ 8192 → 18 * n ≤ begin → Front bytes begin n → begin + key_len (pairs_in bytes 40 n) ≡ 8152 → Laid bytes begin (pairs_in bytes 40 n)
laid_from bytes begin n whole room f e = record {
  whole = whole;
  nodes = f.nodes;
  keys = f.keys;
  begins = e;
  room = omega (arith, room, length-pairs_in bytes 40 n);
  within = f.within;
  apart = f.apart;
}

-- they are laid out where no byte is left
pub count_front : (bytes : List ℕ) (begin i n left : ℕ) → i ≡ n → length bytes ≡ 8192 → 18 * n ≤ begin → begin ≤ 8152 → Front bytes begin i → left + key_len (pairs_in bytes 40 i) ≡ 8152 - begin
    → (IsTrue (nat_eq left 0) → Laid bytes begin (pairs_in bytes 40 n)) × (Laid bytes begin (pairs_in bytes 40 n) → IsTrue (nat_eq left 0))
count_front bytes begin i n left e whole room inside f all =
    let front = subst (Front bytes begin) e f in
    let total : left + key_len (pairs_in bytes 40 n) ≡ 8152 - begin = subst (λ (z : ℕ). left + key_len (pairs_in bytes 40 z) ≡ 8152 - begin) e all in (
      λ t. laid_from bytes begin n whole room front (omega (arith, eqb-true left 0 t, total, inside)),
      λ l. let none : left ≡ 0 = omega (arith, total, l.begins) in subst (λ (z : ℕ). IsTrue (nat_eq z 0)) (sym none) refl,
    )

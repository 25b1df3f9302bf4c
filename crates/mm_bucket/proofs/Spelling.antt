-- What bytes spell is one bucket, and its header counts it.
use Rattle.std.proofs.Common.{◌≡◌, ℕ, ◌-◌, ◌*◌, pos, List, length, sym, ap, ◌∙◌, subst, arith}
use Rattle.mm_base.specs.Bytes.{part}
use Rattle.mm_frames.specs.BucketHeader.{bucket_header_of}
use Rattle.mm_frames.specs.declared.bucket_header.BucketHeader.{BucketHeader}
use Rattle.mm_bucket.specs.Pairs.{Contents, key_len, size}
use Rattle.mm_bucket.specs.Layout.{Laid, Spells, Held, header_of, pairs_in}
use Rattle.mm_bucket.specs.Marks.{IsCounted}
use Rattle.mm_bucket.proofs.Laying.{read_all, length-pairs_in}

pos_same : (n m : ℕ) → pos n ≡ pos m → n ≡ m
pos_same n m e = cc

-- the header of what is spelled counts its pairs
pub counted_of : (bytes : List ℕ) (h : BucketHeader) (b : Contents) → h ≡ bucket_header_of (part 0 40 bytes) → Spells bytes b → IsCounted h (length b.pairs) (8152 - key_len b.pairs)
counted_of bytes h b is s =
    let e : h ≡ header_of b = is ∙ s.header in
    let l = s.laid in
    let empty : 8152 - size b.pairs ≡ 8152 - key_len b.pairs - 18 * length b.pairs = omega arith in
    let top : key_len b.pairs ≡ 8152 - (8152 - key_len b.pairs) = omega (arith, l.begins) in
    record {
      was = ap (λ (x : BucketHeader). x.was_size) e;
      reserved = ap (λ (x : BucketHeader). x.reserved_size) e;
      flags = ap (λ (x : BucketHeader). x.flags) e;
      empty = ap (λ (x : BucketHeader). x.empty_size) e ∙ ap pos empty;
      top = ap (λ (x : BucketHeader). x.top_size) e ∙ ap pos top;
      many = ap (λ (x : BucketHeader). x.n) e;
      room = l.room;
      inside = omega arith;
    }

-- the numbers of a header are those of one count alone
pub counted_once : (h : BucketHeader) (n m begin start : ℕ) → IsCounted h n begin → IsCounted h m start → (n ≡ m) × (begin ≡ start)
counted_once h n m begin start a b =
    let many : n ≡ m = pos_same n m (sym a.many ∙ b.many) in
    let top : 8152 - begin ≡ 8152 - start = pos_same (8152 - begin) (8152 - start) (sym a.top ∙ b.top) in
    (many, omega (arith, top, a.inside, b.inside))

-- pairs that are laid out under a header which counts them
pub held_from : (bytes : List ℕ) (h : BucketHeader) (n begin : ℕ) → h ≡ bucket_header_of (part 0 40 bytes) → IsCounted h n begin → Laid bytes begin (pairs_in bytes 40 n)
    → Held bytes n begin (record { parent = h.parent; pairs = pairs_in bytes 40 n; next = h.next_child })
held_from bytes h n begin is c l =
    let ps = pairs_in bytes 40 n in
    let many : n ≡ length ps = sym (length-pairs_in bytes 40 n) in
    let at : begin ≡ 8152 - key_len ps = omega (arith, l.begins) in
    let empty : begin - 18 * n ≡ 8152 - size ps = omega (arith, at, many) in
    let top : 8152 - begin ≡ key_len ps = omega (arith, l.begins) in
    let same : h ≡ header_of (record { parent = h.parent; pairs = ps; next = h.next_child }) = λ i. record {
      parent = h.parent;
      next_child = h.next_child;
      was_size = c.was i;
      reserved_size = c.reserved i;
      flags = c.flags i;
      empty_size = (c.empty ∙ ap pos empty) i;
      top_size = (c.top ∙ ap pos top) i;
      n = (c.many ∙ ap pos many) i;
    } in
    record {
      spelled = record {
        header = sym is ∙ same;
        laid = subst (λ (z : ℕ). Laid bytes z ps) at l;
      };
      many = many;
      begins = l.begins;
    }

-- what is spelled is laid out as its header counts
pub laid_of : (bytes : List ℕ) (h : BucketHeader) (n begin : ℕ) (b : Contents) → h ≡ bucket_header_of (part 0 40 bytes) → IsCounted h n begin → Spells bytes b → Laid bytes begin (pairs_in bytes 40 n)
laid_of bytes h n begin b is c s =
    let one = counted_once h (length b.pairs) n (8152 - key_len b.pairs) begin (counted_of bytes h b is s) c in
    let ps : b.pairs ≡ pairs_in bytes 40 n = sym (read_all bytes 40 b.pairs s.laid.keys s.laid.nodes) ∙ ap (pairs_in bytes 40) one.0 in
    subst (Laid bytes begin) ps (subst (λ (z : ℕ). Laid bytes z b.pairs) one.1 s.laid)

-- bytes spell one bucket
pub spelled_once : (bytes : List ℕ) (a b : Contents) → Spells bytes a → Spells bytes b → a ≡ b
spelled_once bytes a b s t =
    let e : header_of a ≡ header_of b = sym s.header ∙ t.header in
    let many : length a.pairs ≡ length b.pairs = pos_same (length a.pairs) (length b.pairs) (ap (λ (x : BucketHeader). x.n) e) in
    let ps : a.pairs ≡ b.pairs = sym (read_all bytes 40 a.pairs s.laid.keys s.laid.nodes) ∙ (ap (pairs_in bytes 40) many ∙ read_all bytes 40 b.pairs t.laid.keys t.laid.nodes) in
    let up : a.parent ≡ b.parent = ap (λ (x : BucketHeader). x.parent) e in
    let last : a.next ≡ b.next = ap (λ (x : BucketHeader). x.next_child) e in
    λ i. record { parent = up i; pairs = ps i; next = last i }

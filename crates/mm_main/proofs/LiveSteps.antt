-- The live records of a file that is written as one extent.
use Rattle.std.proofs.Common.{◌≡◌, ℕ, zero, suc, ℤ, pos, negsuc, ◌+◌, ◌-◌, ◌*◌, ◌/◌, ◌^◌, ◌≤◌, List, [], ◌∷◌, length, refl, sym, ap, ◌∙◌, arith, subst, leb, mul_assoc, append-nil}
use Rattle.std.proofs.Math.Nat.{pow-succ'}
use Rattle.std.proofs.lemmas.Bool.{cond_both, leb-true}
use Rattle.mm_base.specs.Bytes.{part}
use Rattle.mm_base.specs.Places.{place_made}
use Rattle.mm_frames.specs.FileHeader.{file_header_of}
use Rattle.mm_frames.proofs.Again.{file_header_is, extent_header_is, rec_header_is}
use Rattle.mm_main.specs.Room.{file_len, extent_at, extent_len, first_at, greatest_power, big_step, least_block, doubled_to, request, block_len}
use Rattle.mm_main.specs.DataFile.{AreRecords, Holds, Fit, link_to, linked, header_with, extent_with, last_from}
use Rattle.mm_main.specs.Live.{IsChain, HasLive}

doubled_room : (r k : ℕ) → r * 2 ^ suc k ≡ 2 * r * 2 ^ k
doubled_room r k = ap (λ p. r * p) (pow-succ' 2 k) ∙ sym (mul_assoc r 2 (2 ^ k)) ∙ ap (λ m. m * 2 ^ k) twice
  where
    twice : r * 2 ≡ 2 * r
    twice = omega arith

doubled_enough : (k r n : ℕ) → n ≤ r * 2 ^ k → n ≤ doubled_to k r n
unfolding doubled_to
doubled_enough zero r n fits = omega (arith, fits)
doubled_enough (suc k) r n fits =
    cond_both (leb n r) r (doubled_to k (2 * r) n) (λ m. n ≤ m) (λ yes. leb-true n r yes) (λ no. doubled_enough k (2 * r) n (subst (λ (m : ℕ). n ≤ m) (doubled_room r k) fits))

-- a block is long enough for what asks for it
pub request_enough : (p : ℕ) → p + 16 ≤ request p
unfolding request
request_enough p =
    cond_both (leb (p + 16) greatest_power) (doubled_to 17 least_block (p + 16)) ((p + 16 + big_step - 1) / big_step * big_step) (λ m. p + 16 ≤ m)
    (λ yes. doubled_enough 17 32 (p + 16) (leb-true (p + 16) greatest_power yes)) (λ no. omega arith)

pub block_enough : (at p : ℕ) → request p ≤ file_len - at → p + 16 ≤ block_len at p
unfolding block_len
block_enough at p fits = cond_both _ (file_len - at) (request p) (λ m. p + 16 ≤ m) (λ _. omega (arith, request_enough p)) (λ _. request_enough p)

chain_of : (file : List ℕ) (at : ℕ) (prev : ℤ) (payloads : List (List ℕ)) → Fit at payloads → AreRecords file at prev payloads → IsChain file extent_at prev (link_to at payloads) payloads
chain_of file at prev [] fit records = refl
chain_of file at prev (payload ∷ payloads) fit records =
    let next = at + block_len at (length payload) in
    let header = rec_header_is (linked (block_len at (length payload)) prev (link_to next payloads)) (part at 16 file) records.0.header in (
      at,
      refl,
      record {
        of_extent = ap (λ h. h.extent_ofs) header;
        behind = ap (λ h. h.prev_ofs) header;
        len = block_len at (length payload);
        length_is = ap (λ h. h.length_with_headers) header;
        room = block_enough at (length payload) fit.0;
        begins = records.0.holds;
      },
      subst (λ (z : ℤ). IsChain file extent_at (pos at) z payloads) (sym (ap (λ h. h.next_ofs) header)) (chain_of file next (pos at) payloads fit.1 records.1),
    )

unused_of : (end : ℕ) → (place_made (pos 0) (pos end)).ofs ≡ pos end → (file : List ℕ) → file_header_of (part 0 8192 file) ≡ header_with end → (file_header_of (part 0 8192 file)).unused.ofs ≡ pos end
unused_of end made file header = ap (λ h. h.unused.ofs) header ∙ made

end_is : (place_made (pos 0) (pos file_len)).ofs ≡ pos file_len
unfolding place_made
end_is = refl

start_is : (place_made (pos 0) (pos extent_at)).ofs ≡ pos extent_at
unfolding place_made
start_is = refl

first_is : (place_made (pos 0) (pos first_at)).ofs ≡ pos first_at
unfolding place_made
first_is = refl

-- the live records of a file are the payloads that it was written with
pub live_of : (collection : List ℕ) (payloads : List (List ℕ)) (file : List ℕ) → Fit first_at payloads → Holds file collection payloads → HasLive file payloads
live_of collection [] file fit holds = record {
  end = extent_at;
  unused = unused_of extent_at start_is file (file_header_is (header_with extent_at) (part 0 8192 file) holds);
  groups = [];
  extents = refl;
  all = refl;
}
live_of collection (payload ∷ payloads) file fit holds =
    let all = payload ∷ payloads in
    let header = extent_header_is (extent_with collection (last_from first_at (negsuc 0) all)) (part extent_at 176 file) holds.1 in
    record {
      end = file_len;
      unused = unused_of file_len end_is file (file_header_is (header_with file_len) (part 0 8192 file) holds.0);
      groups = all ∷ [];
      extents = (
        ap (λ h. h.magic) header,
        subst (λ (z : ℤ). IsChain file extent_at (negsuc 0) z all) (sym (ap (λ h. h.first_record.ofs) header ∙ first_is)) (chain_of file first_at (negsuc 0) all fit holds.2),
        extent_len,
        ap (λ h. h.len) header,
        refl,
      );
      all = append-nil all;
    }

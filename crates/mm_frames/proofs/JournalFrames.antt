-- A frame of the journal that has each field of a value is read as that value.
use Rattle.std.proofs.Common.{◌≡◌, ℕ, ◌<◌, ◌^◌, List, [], ◌++◌, length, refl, sym, ap, ◌∙◌, arith, length-append}
use Rattle.mm_base.specs.Bytes.{part}
use Rattle.mm_base.specs.Fields.{u32_of, u32_bytes, u64_bytes}
use Rattle.mm_base.specs.Tables.{HasAll, AllInRange, joined}
use Rattle.mm_base.proofs.ExactLaws.{joined_has}
use Rattle.mm_base.proofs.Numbers.{length-u32_bytes, length-u64_bytes, u32_again}
use Rattle.mm_base.proofs.Parts.{part_first}
use Rattle.mm_base.proofs.Spelled.{AreBytes}
use Rattle.mm_base.proofs.TableLaws.{length-joined, has_all}
use Rattle.mm_frames.specs.SectionHeader.{section_header_of, section_header_bytes, section_header_table}
use Rattle.mm_frames.specs.declared.section_header.SectionHeader.{SectionHeader}
use Rattle.mm_frames.specs.EntryHead.{entry_head_of, entry_head_bytes, entry_head_table, made_entry_of, made_entry_bytes, made_entry_table}
use Rattle.mm_frames.specs.declared.entry_head.EntryHead.{EntryHead}
use Rattle.mm_frames.specs.declared.entry_head.MadeEntry.{MadeEntry}
use Rattle.mm_frames.specs.Footer.{footer_of, footer_bytes, footer_table}
use Rattle.mm_frames.specs.declared.footer.Footer.{Footer}
use Rattle.mm_frames.specs.JournalHeader.{journal_header_bytes, journal_header_table, journal_id_of}
use Rattle.mm_frames.specs.Lsn.{lsn_bytes, lsn_table, lsn_of}

pub section_header_is : (x : SectionHeader) (bytes : List ℕ) → HasAll bytes (section_header_table x) → section_header_of bytes ≡ x
unfolding section_header_of
section_header_is x bytes has = grind arith

pub entry_head_is : (x : EntryHead) (bytes : List ℕ) → HasAll bytes (entry_head_table x) → entry_head_of bytes ≡ x
unfolding entry_head_of
entry_head_is x bytes has = grind arith

pub made_entry_is : (x : MadeEntry) (bytes : List ℕ) → HasAll bytes (made_entry_table x) → made_entry_of bytes ≡ x
unfolding made_entry_of
made_entry_is x bytes has = grind arith

pub footer_is : (x : Footer) (bytes : List ℕ) → HasAll bytes (footer_table x) → footer_of bytes ≡ x
unfolding footer_of
footer_is x bytes has = grind arith

header_in_range : (id : ℕ) → id < 2 ^ 64 → AllInRange (journal_header_table id)
header_in_range id fits = (refl, (omega arith, (refl, (refl, (refl, (tt, (refl, (fits, (tt, (refl, tt))))))))))

-- a header is 8192 bytes long
pub length-journal_header_bytes : (id : ℕ) → id < 2 ^ 64 → length (journal_header_bytes id) ≡ 8192
unfolding journal_header_bytes
length-journal_header_bytes id fits = length-joined 8192 (journal_header_table id) refl (header_in_range id fits)

pub journal_id_is : (id : ℕ) (bytes : List ℕ) → HasAll bytes (journal_header_table id) → journal_id_of bytes ≡ id
unfolding journal_id_of
journal_id_is id bytes has = has.1.1.1.1.1.1.1.0

pub lsn_in_range : (lsn : ℕ) → lsn < 2 ^ 64 → AllInRange (lsn_table lsn)
lsn_in_range lsn fits = (omega arith, (omega arith, (fits, (omega arith, (tt, tt)))))

-- an lsn file is 88 bytes long
pub length-lsn_bytes : (lsn : ℕ) → lsn < 2 ^ 64 → length (lsn_bytes lsn) ≡ 88
unfolding lsn_bytes
length-lsn_bytes lsn fits = length-joined 88 (lsn_table lsn) refl (lsn_in_range lsn fits)

-- and gives its number back
pub lsn_again : (lsn : ℕ) → lsn < 2 ^ 64 → lsn_of (lsn_bytes lsn) ≡ lsn
unfolding lsn_of lsn_bytes
lsn_again lsn fits = (has_all 88 (lsn_table lsn) refl (lsn_in_range lsn fits)).1.1.0

-- numbers have different lsn files
pub one_lsn : (m n : ℕ) → m < 2 ^ 64 → n < 2 ^ 64 → lsn_bytes m ≡ lsn_bytes n → m ≡ n
one_lsn m n fits_m fits_n is = sym (lsn_again m fits_m) ∙ ap lsn_of is ∙ lsn_again n fits_n

-- ---- lengths, and what is read of a frame that was spelled

pub length-section_header_bytes : (h : SectionHeader) → length (section_header_bytes h) ≡ 20
unfolding section_header_bytes joined
length-section_header_bytes h = omega (arith, length-append (u32_bytes h.len) (u64_bytes h.number ++ (u64_bytes h.file_id ++ [])), length-append (u64_bytes h.number) (u64_bytes h.file_id ++ []), length-append (u64_bytes h.file_id) [], length-u32_bytes h.len, length-u64_bytes h.number, length-u64_bytes h.file_id)

pub section_header_again : (h : SectionHeader) → h.len < 2 ^ 32 → h.number < 2 ^ 64 → h.file_id < 2 ^ 64 → section_header_of (section_header_bytes h) ≡ h
unfolding section_header_bytes
section_header_again h len number id = section_header_is h (section_header_bytes h) (has_all 20 (section_header_table h) refl (len, (number, (id, tt))))

-- twenty bytes are the header that they are read as
pub section_header_spelled : (bytes : List ℕ) → length bytes ≡ 20 → AreBytes bytes → section_header_bytes (section_header_of bytes) ≡ bytes
unfolding section_header_of section_header_bytes
section_header_spelled bytes len are = sym (joined_has 20 bytes (section_header_table (section_header_of bytes)) refl len are (refl, (refl, (refl, tt))) (tt, (tt, (tt, tt))))

pub length-entry_head_bytes : (h : EntryHead) → length (entry_head_bytes h) ≡ 12
unfolding entry_head_bytes joined
length-entry_head_bytes h = omega (arith, length-append (u32_bytes h.len) (u32_bytes h.ofs ++ (u32_bytes h.file ++ [])), length-append (u32_bytes h.ofs) (u32_bytes h.file ++ []), length-append (u32_bytes h.file) [], length-u32_bytes h.len, length-u32_bytes h.ofs, length-u32_bytes h.file)

pub entry_head_again : (h : EntryHead) → h.len < 2 ^ 32 → h.ofs < 2 ^ 32 → h.file < 2 ^ 32 → entry_head_of (entry_head_bytes h) ≡ h
unfolding entry_head_bytes
entry_head_again h len ofs file = entry_head_is h (entry_head_bytes h) (has_all 12 (entry_head_table h) refl (len, (ofs, (file, tt))))

-- twelve bytes are the head that they are read as
pub entry_head_spelled : (bytes : List ℕ) → length bytes ≡ 12 → AreBytes bytes → entry_head_bytes (entry_head_of bytes) ≡ bytes
unfolding entry_head_of entry_head_bytes
entry_head_spelled bytes len are = sym (joined_has 12 bytes (entry_head_table (entry_head_of bytes)) refl len are (refl, (refl, (refl, tt))) (tt, (tt, (tt, tt))))

-- the first word of a range is its length
pub entry_head_word : (h : EntryHead) → h.len < 2 ^ 32 → u32_of (part 0 4 (entry_head_bytes h)) ≡ h.len
unfolding entry_head_bytes joined
entry_head_word h len = ap u32_of (part_first 4 (u32_bytes h.len) (u32_bytes h.ofs ++ (u32_bytes h.file ++ [])) (length-u32_bytes h.len)) ∙ u32_again h.len len

pub length-made_entry_bytes : (m : MadeEntry) → length (made_entry_bytes m) ≡ 12
unfolding made_entry_bytes joined
length-made_entry_bytes m = omega (arith, length-append (u32_bytes 0xfffffffd) (u32_bytes m.file ++ (u32_bytes m.len ++ [])), length-append (u32_bytes m.file) (u32_bytes m.len ++ []), length-append (u32_bytes m.len) [], length-u32_bytes 0xfffffffd, length-u32_bytes m.file, length-u32_bytes m.len)

pub made_entry_again : (m : MadeEntry) → m.file < 2 ^ 32 → m.len < 2 ^ 32 → made_entry_of (made_entry_bytes m) ≡ m
unfolding made_entry_bytes
made_entry_again m file len = made_entry_is m (made_entry_bytes m) (has_all 12 (made_entry_table m) refl (omega arith, (file, (len, tt))))

-- the first word of a made file's entry says that it is one
pub made_entry_word : (m : MadeEntry) → u32_of (part 0 4 (made_entry_bytes m)) ≡ 0xfffffffd
unfolding made_entry_bytes joined
made_entry_word m = ap u32_of (part_first 4 (u32_bytes 0xfffffffd) (u32_bytes m.file ++ (u32_bytes m.len ++ [])) (length-u32_bytes 0xfffffffd)) ∙ u32_again 0xfffffffd (omega arith)

-- twelve bytes with that word are the entry that they are read as
pub made_entry_spelled : (bytes : List ℕ) → length bytes ≡ 12 → AreBytes bytes → u32_of (part 0 4 bytes) ≡ 0xfffffffd → made_entry_bytes (made_entry_of bytes) ≡ bytes
unfolding made_entry_of made_entry_bytes
made_entry_spelled bytes len are word = sym (joined_has 12 bytes (made_entry_table (made_entry_of bytes)) refl len are (word, (refl, (refl, tt))) (tt, (tt, (tt, tt))))

pub length-footer_bytes : (f : Footer) → length f.hash ≡ 16 → length (footer_bytes f) ≡ 32
unfolding footer_bytes
length-footer_bytes f len = length-joined 32 (footer_table f) refl (omega arith, (len, (tt, (refl, tt))))

-- Numbers as little-endian bytes, and back; signed ones are two's complement.
use Rattle.std.specs.Prelude.{ℕ, ℤ, List}
use Rattle.std.specs.Int.{w16, w32, w64, from_le_bytes, to_le_bytes, cast_signed, cast_unsigned}

unfoldable pub u16_of : List ℕ → ℕ
u16_of bytes = from_le_bytes w16 bytes

unfoldable pub u32_of : List ℕ → ℕ
u32_of bytes = from_le_bytes w32 bytes

unfoldable pub u64_of : List ℕ → ℕ
u64_of bytes = from_le_bytes w64 bytes

unfoldable pub i32_of : List ℕ → ℤ
i32_of bytes = cast_signed w32 (u32_of bytes)

unfoldable pub i64_of : List ℕ → ℤ
i64_of bytes = cast_signed w64 (u64_of bytes)

unfoldable pub u16_bytes : ℕ → List ℕ
u16_bytes n = to_le_bytes w16 n

unfoldable pub u32_bytes : ℕ → List ℕ
u32_bytes n = to_le_bytes w32 n

unfoldable pub u64_bytes : ℕ → List ℕ
u64_bytes n = to_le_bytes w64 n

unfoldable pub i32_bytes : ℤ → List ℕ
i32_bytes z = u32_bytes (cast_unsigned w32 z)

unfoldable pub i64_bytes : ℤ → List ℕ
i64_bytes z = u64_bytes (cast_unsigned w64 z)

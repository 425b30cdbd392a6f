-- CRC-32, as Ethernet and zip have it: the bits of a byte are taken from the lowest on.
use Rattle.std.specs.Prelude.{ℕ, ◌-◌, ◌/◌, ◌%◌, ◌^◌, List, [], ◌∷◌, ◌==◌, if◌then◌else◌, bit_xor}

-- the generator, with its bits in the other order
abbrev pub generator : ℕ
generator = 0xedb8_8320

-- one bit is taken
abbrev pub crc_bit : ℕ → ℕ
crc_bit crc = if crc % 2 == 1 then bit_xor (crc / 2) generator else crc / 2

-- one byte is taken
unfoldable pub crc_byte : ℕ → ℕ → ℕ
crc_byte crc byte = crc_bit (crc_bit (crc_bit (crc_bit (crc_bit (crc_bit (crc_bit (crc_bit (bit_xor crc byte))))))))

-- these bytes are taken
abbrev pub crc_bytes : ℕ → List ℕ → ℕ
crc_bytes crc [] = crc
crc_bytes crc (byte ∷ bytes) = crc_bytes (crc_byte crc byte) bytes

unfoldable pub crc32 : List ℕ → ℕ
crc32 bytes = bit_xor (crc_bytes (2 ^ 32 - 1) bytes) (2 ^ 32 - 1)

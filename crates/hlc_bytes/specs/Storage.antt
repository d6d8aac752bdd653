-- Where the bytes of a key or a value are stored.
use Rattle.std.specs.Prelude.{ℕ, List, Option, Some, None}
use Rattle.hlc_bytes.specs.declared.bytes.Storage.{Storage, TheVariants.Here, TheVariants.There}
use Rattle.hlc_bytes.specs.declared.mark.StorageOrMark.{StorageOrMark}
use Rattle.hlc_bytes.specs.declared.mark.StorageOrMark.TheVariants as marked

-- the bytes, wherever they are stored
abbrev pub bytes_of : Storage → List ℕ
bytes_of (Here short) = short
bytes_of (There vec) = vec.items

-- the bytes of the value, or none for the mark
abbrev pub value_of : StorageOrMark → Option (List ℕ)
value_of marked.Mark = None
value_of (marked.Here short) = Some short
value_of (marked.There vec) = Some vec.items

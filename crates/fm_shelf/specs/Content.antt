-- What is known of a file. This project's own rule: a shelf stands for a file system of which nothing is known but what it was
-- seen to hold.
use Rattle.std.specs.Prelude.{◌≡◌, ℕ, List, []}

-- nothing is known, or the file is absent, or it holds these bytes
pub data Content : Type 0 where
  Unknown Absent : Content
  Held : List ℕ → Content

-- the file is known to be there
abbrev pub IsThere : Content → Type 0
IsThere Unknown = ⊥
IsThere Absent = ⊥
IsThere (Held bytes) = Unit {0}

-- the fact holds of the file's bytes, where they are known
abbrev pub IfPresent : Content → (List ℕ → Type 0) → Type 0
IfPresent Unknown P = Unit {0}
IfPresent Absent P = Unit {0}
IfPresent (Held bytes) P = P bytes

-- where anything is known of it, the file is there, and the fact holds of its bytes
abbrev pub IsIfKnown : Content → (List ℕ → Type 0) → Type 0
IsIfKnown Unknown P = Unit {0}
IsIfKnown Absent P = ⊥
IsIfKnown (Held bytes) P = P bytes

-- where anything is known of it, the file has these bytes
abbrev pub HasIfKnown : Content → List ℕ → Type 0
HasIfKnown content bytes = IsIfKnown content (λ held. held ≡ bytes)

-- the bytes that an append goes on from: an absent file counts as empty
abbrev pub bytes_of : Content → List ℕ
bytes_of Unknown = []
bytes_of Absent = []
bytes_of (Held bytes) = bytes

-- the greatest length of a file that is read: 2^26 bytes
abbrev pub greatest : ℕ
greatest = 67108864

-- The kinds of ops by their numbers.
use Rattle.std.specs.Prelude.{◌≡◌, ℕ, Bool, Result, Ok, Err, false, leb, ◌&&◌}
use Rattle.codec.specs.declared.kind.Kind.{Kind}
use Rattle.codec.specs.declared.kind.Kind.TheVariants.{Add, Remove, Upward, Downward}
use Rattle.codec.specs.declared.kind.NoKind.{NoKind}

-- the document's number of each kind
abbrev pub number : Kind → ℕ
number Add = 1
number Remove = 2
number Upward = 3
number Downward = 4

-- whether a number is a kind's
abbrev pub is_kind : ℕ → Bool
is_kind k = leb 1 k && leb k 4

-- the kind that a number names, or none
abbrev pub Names : ℕ → Result Kind NoKind → Type 0
Names n (Ok kind) = n ≡ number kind
Names n (Err none) = is_kind n ≡ false

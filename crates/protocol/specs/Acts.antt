-- How an act is told over a lent row of bytes. Assumes nothing: these are definitions.
use Rattle.std.specs.Prelude.{◌≡◌, ℕ, ◌+◌, ◌*◌, List, ◌++◌, length, drop}
use Rattle.plain.specs.Run.{Act, read, put_on, fasten, begin, shows, done, refused}
use Rattle.protocol.specs.declared.Told.{Told}
use Rattle.protocol.specs.declared.Told.TheVariants.{Read, Append, Fasten, Begin, Shows, Done, No}

-- what is told of an act, and what of the lent row it fills: a record that is put on and a row that is shown stand at its front
unfoldable pub ActTold : Act → Told → (out out₁ : List ℕ) → Type 0
ActTold (read t k) r out out₁ = (r ≡ Read (2 * k + t)) × (out₁ ≡ out)
ActTold (put_on t p) r out out₁ = (r ≡ Append t) × (out₁ ≡ p ++ drop (length p) out)
ActTold (fasten t) r out out₁ = (r ≡ Fasten t) × (out₁ ≡ out)
ActTold (begin t) r out out₁ = (r ≡ Begin t) × (out₁ ≡ out)
ActTold (shows s) r out out₁ = (r ≡ Shows (length s)) × (out₁ ≡ s ++ drop (length s) out)
ActTold done r out out₁ = (r ≡ Done) × (out₁ ≡ out)
ActTold (refused k) r out out₁ = (r ≡ No k) × (out₁ ≡ out)

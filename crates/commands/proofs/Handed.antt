-- What is handed on from one check to the next: the value, or the number. Assumes nothing.
use Rattle.std.proofs.Common.{◌≡◌, ℕ, ap, ◌∙◌}
use Rattle.typed.specs.declared.addresses.Range as typed_range
use Rattle.typed.specs.declared.addresses.Reach.TheVariants.{One, Two, FromFirst}
use Rattle.typed.specs.Meaning.{address_of, range_of}
use Rattle.commands.specs.Resolve.{Checked, good, refused, then, Bounds, bounds, resolve_plain, in_order, resolve_range}

pub then_lost : {A B : Type 0} (c : Checked A) (f : A → Checked B) (k : ℕ) → refused k ≡ c → refused k ≡ then c f
then_lost c f k e = ap (λ x. then x f) e

pub then-on : {A B : Type 0} (c : Checked A) (f : A → Checked B) (a : A) (x : Checked B) → good a ≡ c → x ≡ f a → x ≡ then c f
then-on c f a x e h = h ∙ ap (λ y. then y f) e

-- a range, by which of its addresses were typed
module _ (count at : ℕ) (r : typed_range.Range) (b : Bounds) where
  pub range_one : r.reach ≡ One → resolve_range count at (range_of r) b ≡ then (resolve_plain count at (address_of r.first)) (λ n. good (bounds n n))
  unfolding resolve_range
  range_one e = rw e

  pub range-two : r.reach ≡ Two →
      resolve_range count at (range_of r) b ≡ then (resolve_plain count at (address_of r.first)) (λ n. then (resolve_plain count at (address_of r.second)) (λ m. in_order n m))
  unfolding resolve_range
  range-two e = rw e

  pub range_from_first : r.reach ≡ FromFirst →
      resolve_range count at (range_of r) b ≡ then (resolve_plain count at (address_of r.first)) (λ n. then (resolve_plain count n (address_of r.second)) (λ m. in_order n m))
  unfolding resolve_range
  range_from_first e = rw e

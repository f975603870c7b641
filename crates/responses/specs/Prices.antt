-- Prices by the objects that have them.
use Rattle.std.specs.Prelude.{ℕ, ◌<◌, List, length, slice_index_or}
use Rattle.responses.specs.declared.price.Price.{Price}

abbrev pub no_price : Price
no_price = record { object = 0; price = 0 }

abbrev pub object_at : List Price → ℕ → ℕ
object_at prices place = let p = slice_index_or prices place no_price in p.object

-- the objects of the first so many rise
abbrev pub RiseTo : ℕ → List Price → Type 0
RiseTo count prices = (i j : ℕ) → i < j → j < count → object_at prices i < object_at prices j

abbrev pub Rise : List Price → Type 0
Rise prices = RiseTo (length prices) prices

-- What a part of the input does to a load. Assumes nothing: these are definitions.
use Rattle.std.specs.Prelude.{ℕ, ◌≡◌, List, Option}
use Rattle.std.specs.Io.KnownBytes.{Consumes}
use Rattle.listing.specs.declared.Load.{Load}
use Rattle.listing.specs.Loading.{feed_of}

-- the load m is l gone on with some bytes
pub record Fed (l m : Load) : Type 0 where
  pub bytes : List ℕ
  pub load : m ≡ feed_of l bytes

-- the same with the bytes that an input gave, which had `old` to give before and has `new` now, where it tells
pub record FedFrom (old new : Option (List ℕ)) (l m : Load) : Type 0 where
  pub bytes : List ℕ
  pub load : m ≡ feed_of l bytes
  pub given : Consumes old new bytes

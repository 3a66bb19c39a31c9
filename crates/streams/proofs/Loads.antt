-- Loads of some bytes. Assumes nothing.
use Rattle.std.specs.Prelude.{ℕ, ◌≡◌, true, List, [], ◌++◌, Option}
use Rattle.std.proofs.Common.{◌∙◌}
use Rattle.std.proofs.Math.Path.{ap}
use Rattle.std.specs.Io.KnownBytes.{Consumes}
use Rattle.std.proofs.KnownBytes.{Consumes-trans}
use Rattle.listing.specs.declared.Load.{Load}
use Rattle.listing.specs.Loading.{start_of, stopped, feed_of, end_of}
use Rattle.listing.specs.OutcomeLaws.{feed_chunks, end_stopped}
use Rattle.streams.specs.Reading.{OfText, ReadFrom}
use Rattle.streams.specs.ReadingLayer.{Fed, FedFrom}

module _ (l : Load) where
  -- no byte changes nothing
  pub fed_nothing : (m : Load) → m ≡ l → Fed l m
  unfolding feed_of
  fed_nothing m e = record { bytes = []; load = e }

  pub fed_from_nothing : (a b : Option (List ℕ)) (m : Load) → m ≡ l → Consumes a b [] → FedFrom a b l m
  unfolding feed_of
  fed_from_nothing a b m e k = record { bytes = []; load = e; given = k }

  pub fed_more : (m n : Load) → Fed l m → Fed m n → Fed l n
  fed_more m n f g = record { bytes = f.bytes ++ g.bytes; load = g.load ∙ ap (λ (k : Load). feed_of k g.bytes) f.load ∙ feed_chunks l f.bytes g.bytes }

  pub fed_from_more : (a b c : Option (List ℕ)) (m n : Load) → FedFrom a b l m → FedFrom b c m n → FedFrom a c l n
  fed_from_more a b c m n f g =
      record {
        bytes = f.bytes ++ g.bytes;
        load = g.load ∙ ap (λ (k : Load). feed_of k g.bytes) f.load ∙ feed_chunks l f.bytes g.bytes;
        given = Consumes-trans a b c f.bytes g.bytes f.given g.given;
      }

  -- what some bytes gave from the start on, and the end of the input
  pub text_ended : Fed start_of l → (m : Load) → m ≡ end_of l → OfText m
  text_ended f m e = record { text = f.bytes; load = e ∙ ap end_of f.load }

  pub text_stopped : Fed start_of l → stopped l ≡ true → OfText l
  text_stopped f h = text_ended f l (end_stopped l h)

  pub read_ended : (a b : Option (List ℕ)) → FedFrom a b start_of l → (m : Load) → m ≡ end_of l → ReadFrom a b m
  read_ended a b f m e = record { text = f.bytes; load = e ∙ ap end_of f.load; given = f.given }

  pub read_stopped : (a b : Option (List ℕ)) → FedFrom a b start_of l → stopped l ≡ true → ReadFrom a b l
  read_stopped a b f h = read_ended a b f l (end_stopped l h)

-- A build over any kind of nodes: where the list of the nodes, the bodies and the rows left over are known, what it answers and leaves is as Builds says. Assumes nothing.
use Rattle.std.specs.Prelude.{◌≡◌, refl, ◌↔◌, Bool, true, false, cond, List, [], ◌++◌, ℕ, ◌-◌, ◌≤◌, ◌<◌, T, eqb, ℤ, pos, length, get_or, drop, replicate}
use Rattle.std.proofs.Common.{sym, ap, subst, ◌∙◌, true≢false, arith, eq-eqb, ne_eqb, eqb-true}
use Rattle.std.specs.Int.Signed.{mag}
use Rattle.std.proofs.lemmas.Bool.{eqb-false}
use Rattle.lists.specs.Lists.{◌∈◌, Increasing, totals_from, front}
use Rattle.lists.specs.MemberLaws.{get_or_in, totals_length}
use Rattle.lists.specs.StoreLaws.{front_is, front_over}
use Rattle.image.specs.declared.Body.{Body}
use Rattle.image.specs.Layout.{image_words, node_count, row_at, body_of}
use Rattle.image.specs.ImageLaws.{holds_front, row_read, body_read, bodies_read}
use Rattle.image.specs.ImageLayer.{HoldsImage}
use Rattle.index_check.specs.IndexCheck.{accepts}
use Rattle.built.specs.declared.Built.{Built}
use Rattle.built.specs.OutcomeLayer.{Outcome, answer_when, index_when, totals_when}
use Rattle.forest.specs.Nodes.{node_at}
use Rattle.forest.proofs.ForestLaws.{Forest, Closed}
use Rattle.sums.specs.Sums.{totals_refusal}
use Rattle.sums.specs.HeldLaws.{HoldsTotals, totals_fit}
use Rattle.pull.specs.Pull.{bad_pull, pull_refusal, pull_out, pulled_minutes, SomeBeyond}
use Rattle.pull.proofs.MoveLaws.{kept, out_is}
use Rattle.pull.proofs.HeldLaws.{moved_held, bad_held, near_held, refusal_held, pull_held}
use Rattle.answers.specs.Answers.{First, applies, otherwise, NoOther, Navigation, DistancesAtMostZero, LinksByBeginnings, LinksByLevel, MeetsAtCommonBeginning}
use Rattle.answers.proofs.DescribedLaws.{Described, same_length, count_here, levelled, described_accepted}
use Rattle.answers.proofs.MeetLaws.{meets_at_common_beginning}
use Rattle.answers.proofs.NavigationLaws.{navigation_here, links_by_beginnings, links_by_level, distances_at_most_zero}
use Rattle.answers.proofs.ZeroLaws.{zeros_refused}
use Rattle.guarantee.specs.Builds.{NodeKind, NodeList, BodyOf, Accepted, Refused, PullsRow, Build}

-- no refusal 1, and none after it
pub sound_first : (t : Bool) (q : ℕ) → cond t q 1 ≡ 0 → (t ≡ true) × (q ≡ 0)
sound_first true q e = (refl, e)
sound_first false q e = absurd (omega arith)

module _ (o : Outcome) where
  pub zeroed : (q : ℕ) (index : List ℕ) (totals : List ℤ) → Refused (answer_when o q false) index (index_when o index false) totals (totals_when o totals false)
  zeroed q index totals = record { n = refl; left = refl; zero_index = refl; zero_totals = refl; navigation = zeros_refused (length index) (replicate (length totals) (pos 0)) }

  -- "1. The board isn't sound."; q is the number of the first of the other sentences
  pub unsound_refused : (sound : Bool) (q : ℕ) → sound ≡ false → (index : List ℕ) (totals : List ℤ) → let n : ℕ = cond sound q 1 in
      (n ≡ 1) × Refused (answer_when o n (eqb n 0)) index (index_when o index (eqb n 0)) totals (totals_when o totals (eqb n 0))
  unsound_refused true q e index totals = absurd (true≢false e)
  unsound_refused false q e index totals = (refl, zeroed 1 index totals)

  -- the bodies describe the forest, one for each node, and fit an index
  pub record Fitting : Type 1 where
    pub forest : Forest o.W
    pub described : Described o.W o.bs
    pub short : (p : List ℕ) → p ∈ o.W → length p < 65536
    pub small : length o.W ≤ 65535

  module _ (index : List ℕ) (totals : List ℤ) where
    pub held : HoldsImage (index_when o index true) o.bs
    held = holds_front o.bs index

    module _ (g : Fitting) where
      pub checked_here : accepts (index_when o index true) ≡ true
      checked_here = described_accepted g.forest g.described g.short held g.small

      pub beginnings_here : LinksByBeginnings o.W (index_when o index true)
      beginnings_here = links_by_beginnings g.forest g.described g.short g.small held

      pub levels_here : Closed o.W → LinksByLevel (index_when o index true)
      levels_here closed = links_by_level g.forest g.described g.short g.small held closed

      pub distances_here : DistancesAtMostZero (index_when o index true)
      distances_here = distances_at_most_zero g.forest g.described g.short g.small held

      pub common_beginnings_here : Closed o.W → MeetsAtCommonBeginning o.W (index_when o index true)
      common_beginnings_here closed = meets_at_common_beginning g.forest g.described g.short g.small held closed

    -- what holds of an accepted build holds where its refusal is 0
    pub when_none : {q : ℕ} (P : Built → List ℕ → List ℤ → Type 0) → q ≡ 0 → P (answer_when o q true) (index_when o index true) (totals_when o totals true) → P (answer_when o q (eqb q 0)) (index_when o index (eqb q 0)) (totals_when o totals (eqb q 0))
    when_none {q} P z h = subst (λ t. P (answer_when o q t) (index_when o index t) (totals_when o totals t)) (sym (eq-eqb q 0 z)) h

    -- each is the body of its node as the kind says, and the totals run over the nodes
    module _ (kind : NodeKind) (each : (k : ℕ) (d : Body) → 1 ≤ k → k ≤ length o.W → BodyOf kind o.W (node_at o.W k) (get_or o.bs (k - 1) d)) (running-is : o.running ≡ totals_from kind.minutes (pos 0) o.W) where
      pub runs : HoldsTotals kind.minutes o.W (totals_when o totals true)
      runs = record { rest = drop (length o.running) totals; is = front_is o.running totals ∙ ap (λ l. l ++ drop (length o.running) totals) running-is }

      -- the pull of a row on what it left
      module _ (g : Fitting) where
        abbrev index_here : List ℕ
        index_here = index_when o index true

        abbrev totals_here : List ℤ
        totals_here = totals_when o totals true

        nodes_here : node_count (index_when o index true) ≡ length o.W
        nodes_here = count_here g.forest g.described g.short held

        rows_here : (k : ℕ) → 1 ≤ k → k ≤ length o.W → row_at (index_when o index true) k ≡ kind.row (node_at o.W k)
        rows_here k low high = let d : Body = body_of index_here k in let n = same_length g.forest g.described in row_read held k d low (omega arith) ∙ (each k d low high).row

        totalled : totals_refusal (index_when o index true) (totals_when o totals true) ≡ 0
        totalled = totals_fit runs g.small held (sym (same_length g.forest g.described))

        module _ (row : ℕ) (difference : ℤ) where
          -- the totals afterwards where it isn't refused
          pub pulled_totals : pull_refusal (index_when o index true) (totals_when o totals true) row difference ≡ 0
              → pull_out (index_when o index true) (totals_when o totals true) row difference ≡ front (totals_from (pulled_minutes kind.minutes kind.row row difference) (pos 0) o.W) totals
          pulled_totals z =
              let more : List ℤ = totals_from (pulled_minutes kind.minutes kind.row row difference) (pos 0) o.W in
              out_is index_here totals_here row difference z
              ∙ ap (λ l. front l totals_here) (moved_held runs index_here nodes_here kind.row [] rows_here row difference)
              ∙ front_over more o.running totals
              (totals_length (pulled_minutes kind.minutes kind.row row difference) (pos 0) o.W ∙ sym (ap length running-is ∙ totals_length kind.minutes (pos 0) o.W))

          pub pulls_row : PullsRow kind o.W row difference (pull_refusal (index_when o index true) (totals_when o totals true) row difference) totals (totals_when o totals true) (pull_out (index_when o index true) (totals_when o totals true) row difference)
          pulls_row = record {
            first = subst (First (row ≡ 0) 4 (First (SomeBeyond kind.minutes kind.row o.W row difference) 15 NoOther)) (sym (refusal_held runs index_here nodes_here kind.row [] rows_here row difference totalled)) (judged (eqb row 0) refl (bad_pull index_here totals_here row difference) refl);
            accepted = pulled_totals;
            refused = kept index_here totals_here row difference;
          }
            where
              judged : (t : Bool) → eqb row 0 ≡ t → (v : Bool) → bad_pull index_here totals_here row difference ≡ v
                  → First (row ≡ 0) 4 (First (SomeBeyond kind.minutes kind.row o.W row difference) 15 NoOther) (cond t 4 (cond v 15 0))
              judged true e v f = applies (eqb-true row 0 e) refl
              judged false e true f = otherwise (eqb-false row 0 e) (applies (bad_held runs index_here nodes_here kind.row [] rows_here row difference (subst T (sym f) tt)) refl)
              judged false e false f = otherwise (eqb-false row 0 e) (otherwise (near_held runs index_here nodes_here kind.row [] rows_here row difference f) refl)

          -- minutes of 32 bits, before and after
          pub pull_accepted : 1 ≤ row → ((p : List ℕ) → p ∈ o.W → mag (kind.minutes p) < 2147483648) → ((p : List ℕ) → p ∈ o.W → mag (pulled_minutes kind.minutes kind.row row difference p) < 2147483648)
              → pull_refusal (index_when o index true) (totals_when o totals true) row difference ≡ 0
          pull_accepted some fit fit' = pull_held runs index_here nodes_here kind.row [] rows_here row difference totalled g.small some fit fit'

    -- and the rows left over are counted
    module _ (kind : NodeKind) (nodes : NodeList kind o.W) (each : (k : ℕ) (d : Body) → 1 ≤ k → k ≤ length o.W → BodyOf kind o.W (node_at o.W k) (get_or o.bs (k - 1) d)) (running-is : o.running ≡ totals_from kind.minutes (pos 0) o.W)
        (left_rows : List ℕ) (left_rising : Increasing ◌<◌ left_rows) (left_is : (x : ℕ) → (x ∈ left_rows) ↔ kind.Left x) (left_count_lem : o.left ≡ length left_rows) where
      pub written : (q : ℕ) → Fitting → Accepted kind o.W (answer_when o q true) index (index_when o index true) totals (totals_when o totals true)
      written q g = record {
        n = refl;
        count = count_here g.forest g.described g.short held;
        bodies = λ k low high. subst (BodyOf kind o.W (node_at o.W k)) (sym (read k low high)) (each k (body_of (index_when o index true) k) low high);
        image = ap (λ l. front (image_words l) index) (sym (bodies_read held (levelled g.forest g.described g.short)));
        running = ap (λ l. front l totals) running-is;
        left_rows = left_rows;
        left_rising = left_rising;
        left_is = left_is;
        left_count_lem = left_count_lem;
      }
        where
          read : (k : ℕ) → 1 ≤ k → k ≤ length o.W → body_of (index_when o index true) k ≡ get_or o.bs (k - 1) (body_of (index_when o index true) k)
          read k low high =
              let d : Body = body_of (index_when o index true) k in
              let n = same_length g.forest g.described in
              body_read held k d low (omega arith) (levelled g.forest g.described g.short (get_or o.bs (k - 1) d) (get_or_in o.bs (k - 1) d (omega arith)))

      -- the whole build: q is the number of the first sentence that applies
      abbrev pub kind_build : (Refusal : List (List ℕ) → ℕ → Type 0) (q : ℕ) → Refusal o.W q → (q ≡ 0 → Fitting) → (fits : Type 0) → (fits → (p : List ℕ) → p ∈ o.W → mag (kind.minutes p) < 2147483648)
          → Build kind Refusal fits (answer_when o q (eqb q 0)) index (index_when o index (eqb q 0)) totals (totals_when o totals (eqb q 0))
      kind_build Refusal q first unrefused fits fit = record {
        W = o.W;
        nodes = nodes;
        refusal = first;
        refused = λ n. subst (λ t. Refused (answer_when o q t) index (index_when o index t) totals (totals_when o totals t)) (sym (ne_eqb q 0 n)) (zeroed q index totals);
        accepted = λ z. when_none (λ a i t. Accepted kind o.W a index i totals t) z (written q (unrefused z));
        navigation = λ z. let g = unrefused z in
            when_none (λ a i t. Navigation kind.minutes o.W fits i t) z (navigation_here g.forest g.described g.short g.small held kind.minutes fits fit (runs kind each running-is));
        pulls = λ z row difference. when_none (λ a i t. PullsRow kind o.W row difference (pull_refusal i t row difference) totals t (pull_out i t row difference)) z (pulls_row kind each running-is (unrefused z) row difference);
      }

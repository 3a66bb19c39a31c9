-- A slice that is refused for its table of contents is no index; of another the table says how many words there are.
use Rattle.std.proofs.Common.{◌≡◌, true≢false, List, ℕ, Bool, true, false, not, cond, ◌&&◌, refl, sym, ap, ◌∙◌, arith}
use Rattle.std.specs.Prelude.{Result, Ok, Err}
use Rattle.std.specs.Result.{is_ok}
use Rattle.refusal.specs.declared.Refusal.{Refusal}
use Rattle.refusal.specs.Numbers.{refusal_of}
use Rattle.refusal.specs.NumberLaws.{number_some}
use Rattle.lists.specs.ChoiceLaws.{and_yes}
use Rattle.lists.specs.Lists.{all_to}
use Rattle.image.specs.Layout.{node_count, bad_contents, contents_refusal}
use Rattle.image.specs.ImageLaws.{Contents, contents}
use Rattle.index_check.specs.IndexCheck.{zeros_right, check_right, rank_right, accepts}
use Rattle.index_check.proofs.RankLaws.{then_and, else_and}
use Rattle.index_check.proofs.index_check.Goals as goal
use Rattle.index_check.proofs.index_check.Goals.{then-is_ok, else-is_ok, then-zeros_right, else-zeros_right}

ok_is : (s : List ℕ) (r : Result (Unit {0}) Refusal) → refusal_of r ≡ contents_refusal s → is_ok r ≡ not (bad_contents s)
ok_is s r e = go r (bad_contents s) e
  where
    go : (r : Result (Unit {0}) Refusal) (b : Bool) → refusal_of r ≡ cond b 13 0 → is_ok r ≡ not b
    go (Ok u) true e = absurd (omega arith)
    go (Ok u) false e = refl
    go (Err r) true e = refl
    go (Err r) false e = absurd (omega (arith, number_some r))

and_assoc3 : (a b d e : Bool) → ((a && b) && d) && e ≡ a && (b && (d && e))
and_assoc3 false b d e = refl
and_assoc3 true false d e = refl
and_assoc3 true true d e = refl

held : (s : List ℕ) → not (bad_contents s) ≡ true → Contents s
held s e = contents s (good (bad_contents s) e)
  where
    good : (b : Bool) → not b ≡ true → b ≡ false
    good true e = absurd (true≢false (sym e))
    good false e = refl

pub zeros_right-requires : goal.zeros_right-requires
zeros_right-requires c =
    let s = c.args.index.now in
    let v0 : c.is_ok.result ≡ not (bad_contents s) = c.is_ok.ensures.value ∙ ok_is s c.check_contents.result c.check_contents.ensures in
    (held s (sym v0 ∙ c.if-is_ok.true)).long

pub bounds-index-0 : goal.bounds-index-0
bounds-index-0 c =
    let s = c.args.index.now in
    let v0 : c.is_ok.result ≡ not (bad_contents s) = c.is_ok.ensures.value ∙ ok_is s c.check_contents.result c.check_contents.ensures in
    let v1 : c.if-is_ok.value ≡ c.is_ok.result && zeros_right s =
    elim c.if-is_ok.branch [ then-is_ok w ↦ then_and _ _ _ w.if-is_ok.true (w.value-is ∙ w.zeros_right.ensures) | else-is_ok w ↦ else_and _ _ _ w.if-is_ok.false w.value-is ] in
    let h = held s (sym v0 ∙ (and_yes _ _ (sym v1 ∙ c.if-zeros_right.true)).0) in
    omega (arith, h)

pub check_right-requires : goal.check_right-requires
check_right-requires c =
    let s = c.args.index.now in
    let v0 : c.is_ok.result ≡ not (bad_contents s) = c.is_ok.ensures.value ∙ ok_is s c.check_contents.result c.check_contents.ensures in
    let v1 : c.if-is_ok.value ≡ c.is_ok.result && zeros_right s =
    elim c.if-is_ok.branch [ then-is_ok w ↦ then_and _ _ _ w.if-is_ok.true (w.value-is ∙ w.zeros_right.ensures) | else-is_ok w ↦ else_and _ _ _ w.if-is_ok.false w.value-is ] in
    let h = held s (sym v0 ∙ (and_yes _ _ (sym v1 ∙ c.if-zeros_right.true)).0) in
    (refl, h.few, h.room)

pub bounds-index-0-then-check_right : goal.bounds-index-0-then-check_right
bounds-index-0-then-check_right c =
    let s = c.args.index.now in
    let v0 : c.is_ok.result ≡ not (bad_contents s) = c.is_ok.ensures.value ∙ ok_is s c.check_contents.result c.check_contents.ensures in
    let v1 : c.if-is_ok.value ≡ c.is_ok.result && zeros_right s =
    elim c.if-is_ok.branch [ then-is_ok w ↦ then_and _ _ _ w.if-is_ok.true (w.value-is ∙ w.zeros_right.ensures) | else-is_ok w ↦ else_and _ _ _ w.if-is_ok.false w.value-is ] in
    let v2 : c.if-zeros_right.value ≡ c.if-is_ok.value && check_right s =
    elim c.if-zeros_right.branch [ then-zeros_right w ↦ then_and _ _ _ w.if-zeros_right.true (w.value-is ∙ w.check_right.ensures) | else-zeros_right w ↦ else_and _ _ _ w.if-zeros_right.false w.value-is ] in
    let h = held s (sym v0 ∙ (and_yes _ _ (sym v1 ∙ (and_yes _ _ (sym v2 ∙ c.if-check_right.true)).0)).0) in
    omega (arith, h)

pub ranks_right-requires : goal.ranks_right-requires
ranks_right-requires c =
    let s = c.args.index.now in
    let v0 : c.is_ok.result ≡ not (bad_contents s) = c.is_ok.ensures.value ∙ ok_is s c.check_contents.result c.check_contents.ensures in
    let v1 : c.if-is_ok.value ≡ c.is_ok.result && zeros_right s =
    elim c.if-is_ok.branch [ then-is_ok w ↦ then_and _ _ _ w.if-is_ok.true (w.value-is ∙ w.zeros_right.ensures) | else-is_ok w ↦ else_and _ _ _ w.if-is_ok.false w.value-is ] in
    let v2 : c.if-zeros_right.value ≡ c.if-is_ok.value && check_right s =
    elim c.if-zeros_right.branch [ then-zeros_right w ↦ then_and _ _ _ w.if-zeros_right.true (w.value-is ∙ w.check_right.ensures) | else-zeros_right w ↦ else_and _ _ _ w.if-zeros_right.false w.value-is ] in
    let h = held s (sym v0 ∙ (and_yes _ _ (sym v1 ∙ (and_yes _ _ (sym v2 ∙ c.if-check_right.true)).0)).0) in
    (h.few, h.room)

pub returns-then-check_right : goal.returns-then-check_right
unfolding accepts
returns-then-check_right c =
    let s = c.args.index.now in
    let v0 : c.is_ok.result ≡ not (bad_contents s) = c.is_ok.ensures.value ∙ ok_is s c.check_contents.result c.check_contents.ensures in
    let v1 : c.if-is_ok.value ≡ c.is_ok.result && zeros_right s =
    elim c.if-is_ok.branch [ then-is_ok w ↦ then_and _ _ _ w.if-is_ok.true (w.value-is ∙ w.zeros_right.ensures) | else-is_ok w ↦ else_and _ _ _ w.if-is_ok.false w.value-is ] in
    let v2 : c.if-zeros_right.value ≡ c.if-is_ok.value && check_right s =
    elim c.if-zeros_right.branch [ then-zeros_right w ↦ then_and _ _ _ w.if-zeros_right.true (w.value-is ∙ w.check_right.ensures) | else-zeros_right w ↦ else_and _ _ _ w.if-zeros_right.false w.value-is ] in
    let before : c.if-zeros_right.value ≡ (not (bad_contents s) && zeros_right s) && check_right s =
    v2 ∙ ap (λ (t : Bool). t && check_right s) (v1 ∙ ap (λ (t : Bool). t && zeros_right s) v0) in
    then_and _ _ _ (sym before ∙ c.if-check_right.true) c.ranks_right.ensures ∙ and_assoc3 (not (bad_contents s)) (zeros_right s) (check_right s) (all_to (rank_right s) (node_count s))

pub returns-else-check_right : goal.returns-else-check_right
unfolding accepts
returns-else-check_right c =
    let s = c.args.index.now in
    let v0 : c.is_ok.result ≡ not (bad_contents s) = c.is_ok.ensures.value ∙ ok_is s c.check_contents.result c.check_contents.ensures in
    let v1 : c.if-is_ok.value ≡ c.is_ok.result && zeros_right s =
    elim c.if-is_ok.branch [ then-is_ok w ↦ then_and _ _ _ w.if-is_ok.true (w.value-is ∙ w.zeros_right.ensures) | else-is_ok w ↦ else_and _ _ _ w.if-is_ok.false w.value-is ] in
    let v2 : c.if-zeros_right.value ≡ c.if-is_ok.value && check_right s =
    elim c.if-zeros_right.branch [ then-zeros_right w ↦ then_and _ _ _ w.if-zeros_right.true (w.value-is ∙ w.check_right.ensures) | else-zeros_right w ↦ else_and _ _ _ w.if-zeros_right.false w.value-is ] in
    let before : c.if-zeros_right.value ≡ (not (bad_contents s) && zeros_right s) && check_right s =
    v2 ∙ ap (λ (t : Bool). t && check_right s) (v1 ∙ ap (λ (t : Bool). t && zeros_right s) v0) in
    else_and _ (all_to (rank_right s) (node_count s)) _ (sym before ∙ c.if-check_right.false) before ∙ and_assoc3 (not (bad_contents s)) (zeros_right s) (check_right s) (all_to (rank_right s) (node_count s))

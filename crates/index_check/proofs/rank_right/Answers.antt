-- Once the parent rank is found right it lies below the rank, so that its words may be read.
use Rattle.std.proofs.Common.{◌≡◌, refl, sym, ap, ◌∙◌, Bool, true, false, ◌&&◌}
use mathlib.Core.Bool.{and-false}
use Rattle.lists.specs.ChoiceLaws.{and_yes}
use Rattle.index_check.specs.IndexCheck.{size_right, end_right, parent_right, level_right, root_right, bits_right, rank_right}
use Rattle.index_check.proofs.RankLaws.{then_and, else_and, parent_below}
use Rattle.index_check.proofs.rank_right.Goals as goal
use Rattle.index_check.proofs.rank_right.Goals.{then-size_right, else-size_right, then-parent_right, else-parent_right, then-end_right, else-end_right, then-level_right, else-level_right}

-- the parent rank is asked for before the end
in_turn : (a b d e f g : Bool) → ((((a && b) && d) && e) && f) && g ≡ a && (d && (b && (e && (f && g))))
in_turn false b d e f g = refl
in_turn true false d e f g = sym (and-false d)
in_turn true true false e f g = refl
in_turn true true true false f g = refl
in_turn true true true true false g = refl
in_turn true true true true true g = refl

pub end_right-requires : goal.end_right-requires
end_right-requires c =
    let s = c.args.index.now in
    let k = c.args.k in
    let v1 : c.if-size_right.value ≡ c.size_right.result && parent_right s k =
    elim c.if-size_right.branch [ then-size_right w ↦ then_and _ _ _ w.if-size_right.true (w.value-is ∙ w.parent_right.ensures) | else-size_right w ↦ else_and _ _ _ w.if-size_right.false w.value-is ] in
    record { held = c.requires.held; below = parent_below s k c.requires.held.low (and_yes _ _ (sym v1 ∙ c.if-parent_right.true)).1 }

pub level_right-requires : goal.level_right-requires
level_right-requires c =
    let s = c.args.index.now in
    let k = c.args.k in
    let v1 : c.if-size_right.value ≡ c.size_right.result && parent_right s k =
    elim c.if-size_right.branch [ then-size_right w ↦ then_and _ _ _ w.if-size_right.true (w.value-is ∙ w.parent_right.ensures) | else-size_right w ↦ else_and _ _ _ w.if-size_right.false w.value-is ] in
    let v2 : c.if-parent_right.value ≡ c.if-size_right.value && end_right s k =
    elim c.if-parent_right.branch [ then-parent_right w ↦ then_and _ _ _ w.if-parent_right.true (w.value-is ∙ w.end_right.ensures) | else-parent_right w ↦ else_and _ _ _ w.if-parent_right.false w.value-is ] in
    let y2 = (and_yes _ _ (sym v2 ∙ c.if-end_right.true)).0 in
    record { held = c.requires.held; below = parent_below s k c.requires.held.low (and_yes _ _ (sym v1 ∙ y2)).1 }

pub root_right-requires : goal.root_right-requires
root_right-requires c =
    let s = c.args.index.now in
    let k = c.args.k in
    let v1 : c.if-size_right.value ≡ c.size_right.result && parent_right s k =
    elim c.if-size_right.branch [ then-size_right w ↦ then_and _ _ _ w.if-size_right.true (w.value-is ∙ w.parent_right.ensures) | else-size_right w ↦ else_and _ _ _ w.if-size_right.false w.value-is ] in
    let v2 : c.if-parent_right.value ≡ c.if-size_right.value && end_right s k =
    elim c.if-parent_right.branch [ then-parent_right w ↦ then_and _ _ _ w.if-parent_right.true (w.value-is ∙ w.end_right.ensures) | else-parent_right w ↦ else_and _ _ _ w.if-parent_right.false w.value-is ] in
    let v3 : c.if-end_right.value ≡ c.if-parent_right.value && level_right s k =
    elim c.if-end_right.branch [ then-end_right w ↦ then_and _ _ _ w.if-end_right.true (w.value-is ∙ w.level_right.ensures) | else-end_right w ↦ else_and _ _ _ w.if-end_right.false w.value-is ] in
    let y3 = (and_yes _ _ (sym v3 ∙ c.if-level_right.true)).0 in
    let y2 = (and_yes _ _ (sym v2 ∙ y3)).0 in
    record { held = c.requires.held; below = parent_below s k c.requires.held.low (and_yes _ _ (sym v1 ∙ y2)).1 }

pub returns-then-root_right : goal.returns-then-root_right
unfolding rank_right
returns-then-root_right c =
    let s = c.args.index.now in
    let k = c.args.k in
    let v1 : c.if-size_right.value ≡ c.size_right.result && parent_right s k =
    elim c.if-size_right.branch [ then-size_right w ↦ then_and _ _ _ w.if-size_right.true (w.value-is ∙ w.parent_right.ensures) | else-size_right w ↦ else_and _ _ _ w.if-size_right.false w.value-is ] in
    let v2 : c.if-parent_right.value ≡ c.if-size_right.value && end_right s k =
    elim c.if-parent_right.branch [ then-parent_right w ↦ then_and _ _ _ w.if-parent_right.true (w.value-is ∙ w.end_right.ensures) | else-parent_right w ↦ else_and _ _ _ w.if-parent_right.false w.value-is ] in
    let v3 : c.if-end_right.value ≡ c.if-parent_right.value && level_right s k =
    elim c.if-end_right.branch [ then-end_right w ↦ then_and _ _ _ w.if-end_right.true (w.value-is ∙ w.level_right.ensures) | else-end_right w ↦ else_and _ _ _ w.if-end_right.false w.value-is ] in
    let v4 : c.if-level_right.value ≡ c.if-end_right.value && root_right s k =
    elim c.if-level_right.branch [ then-level_right w ↦ then_and _ _ _ w.if-level_right.true (w.value-is ∙ w.root_right.ensures) | else-level_right w ↦ else_and _ _ _ w.if-level_right.false w.value-is ] in
    let all : c.if-level_right.value ≡ (((size_right s k && parent_right s k) && end_right s k) && level_right s k) && root_right s k =
    v4 ∙ ap (λ (t : Bool). t && root_right s k) (v3 ∙ ap (λ (t : Bool). t && level_right s k) (v2 ∙ ap (λ (t : Bool). t && end_right s k) (v1 ∙ ap (λ (t : Bool). t && parent_right s k) c.size_right.ensures))) in
    then_and _ _ _ (sym all ∙ c.if-root_right.true) c.bits_right.ensures ∙ in_turn (size_right s k) (parent_right s k) (end_right s k) (level_right s k) (root_right s k) (bits_right s k)

pub returns-else-root_right : goal.returns-else-root_right
unfolding rank_right
returns-else-root_right c =
    let s = c.args.index.now in
    let k = c.args.k in
    let v1 : c.if-size_right.value ≡ c.size_right.result && parent_right s k =
    elim c.if-size_right.branch [ then-size_right w ↦ then_and _ _ _ w.if-size_right.true (w.value-is ∙ w.parent_right.ensures) | else-size_right w ↦ else_and _ _ _ w.if-size_right.false w.value-is ] in
    let v2 : c.if-parent_right.value ≡ c.if-size_right.value && end_right s k =
    elim c.if-parent_right.branch [ then-parent_right w ↦ then_and _ _ _ w.if-parent_right.true (w.value-is ∙ w.end_right.ensures) | else-parent_right w ↦ else_and _ _ _ w.if-parent_right.false w.value-is ] in
    let v3 : c.if-end_right.value ≡ c.if-parent_right.value && level_right s k =
    elim c.if-end_right.branch [ then-end_right w ↦ then_and _ _ _ w.if-end_right.true (w.value-is ∙ w.level_right.ensures) | else-end_right w ↦ else_and _ _ _ w.if-end_right.false w.value-is ] in
    let v4 : c.if-level_right.value ≡ c.if-end_right.value && root_right s k =
    elim c.if-level_right.branch [ then-level_right w ↦ then_and _ _ _ w.if-level_right.true (w.value-is ∙ w.root_right.ensures) | else-level_right w ↦ else_and _ _ _ w.if-level_right.false w.value-is ] in
    let all : c.if-level_right.value ≡ (((size_right s k && parent_right s k) && end_right s k) && level_right s k) && root_right s k =
    v4 ∙ ap (λ (t : Bool). t && root_right s k) (v3 ∙ ap (λ (t : Bool). t && level_right s k) (v2 ∙ ap (λ (t : Bool). t && end_right s k) (v1 ∙ ap (λ (t : Bool). t && parent_right s k) c.size_right.ensures))) in
    else_and _ (bits_right s k) _ (sym all ∙ c.if-root_right.false) all ∙ in_turn (size_right s k) (parent_right s k) (end_right s k) (level_right s k) (root_right s k) (bits_right s k)

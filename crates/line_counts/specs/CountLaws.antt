-- Counting the nodes of a levelled list line by line, by what each line is the first to have. Assumes nothing.
use Rattle.std.specs.Prelude.{◌≡◌, List, [], ℕ, zero, suc, ◌+◌, ◌*◌, ◌≤◌, ◌<◌, not, eqb, length, get_or, drop, set, count_by}
use Rattle.std.proofs.Common.{sym, subst, ap, ap₂, ◌∙◌, arith, length-append, length-drop, length-set, get_or-set_same, get_or-set_other}
use Rattle.std.proofs.Math.Decide.{dec_lt, ℕ_discrete}
use Rattle.lists.specs.MemberLaws.{filter_short}
use Rattle.levels.specs.Levelled.{is_blank, sorted_lines, levelled_nodes}
use Rattle.levels.specs.LineLayer.{filled_number, common, Ready}
use Rattle.levels.specs.PassLayer.{line_beside, fresh_beginnings, pass_at}
use Rattle.levels.proofs.NodeLaws.{one_pass}
use Rattle.levels.proofs.PassLaws.{fresh_number, pass_next, pass_end}
use Rattle.levels.proofs.LevelledLaws.{list_sorted}
use Rattle.line_counts.specs.CountLayer.{CountsBefore}
use Rattle.line_counts.specs.ReadyLaws.{lines_length, line_length, at_shared}
use Rattle.line_counts.specs.BlankLaws.{filter_count}

module _ {s : List ℕ} {w : ℕ} {order shared : List ℕ} (ready : Ready s w order shared) where
  abbrev S : List (List ℕ)
  S = sorted_lines s w

  nodes_pass : levelled_nodes S ≡ pass_at S 0
  nodes_pass = one_pass S (list_sorted s w)

  pub new_number : (i from r : ℕ) (l : List ℕ) → i < length order → l ≡ get_or (sorted_lines s w) i [] → from ≡ get_or shared i 0 → r ≡ count_by (λ c. not (eqb c 0)) (drop from l)
      → r ≡ length (fresh_beginnings (line_beside (sorted_lines s w) i) (get_or (sorted_lines s w) i []))
  new_number i from r l h e f q =
      q
      ∙ sym (filter_count (λ c. not (eqb c 0)) (drop from l))
      ∙ ap₂ (λ n m. filled_number (drop n m)) (f ∙ at_shared ready i h) e
      ∙ sym (fresh_number (line_beside S i) (get_or S i []))

  fresh_few : (i : ℕ) → i < length order → length (fresh_beginnings (line_beside S i) (get_or S i [])) ≤ 8
  fresh_few i h =
      let l = get_or S i [] in
      let n = common (line_beside S i) l in
      omega (arith, fresh_number (line_beside S i) l, filter_short (λ c. not (is_blank c)) (drop n l), length-drop n l, line_length ready i h, ready.narrow)

  -- the rest of the pass from one line to the next
  count_next : (i : ℕ) → i < length order → length (pass_at S i) ≡ length (fresh_beginnings (line_beside S i) (get_or S i [])) + length (pass_at S (i + 1))
  count_next i h = ap length (pass_next S i (omega (arith, lines_length ready))) ∙ length-append (fresh_beginnings (line_beside S i) (get_or S i [])) (pass_at S (i + 1))

  count_end : (i : ℕ) → length order ≤ i → length (pass_at S i) ≡ 0
  count_end i h = ap length (pass_end S i (omega (arith, lines_length ready)))

  few_from : (f i : ℕ) → length order ≤ i + f → length (pass_at S i) ≤ 8 * f
  few_from zero i h = omega (arith, count_end i (omega arith))
  few_from (suc f) i h = go (dec_lt i (length order)) (few_from f (i + 1) (omega arith))
    where
      go : Dec (i < length order) → length (pass_at S (i + 1)) ≤ 8 * f → length (pass_at S i) ≤ 8 * suc f
      go (yes b) r = omega (arith, count_next i b, fresh_few i b)
      go (no b) r = omega (arith, count_end i (omega arith))

  -- at most 8 nodes a line
  pub few_nodes : length (levelled_nodes (sorted_lines s w)) ≤ 4096
  few_nodes = omega (arith, few_from (length order) 0 (omega arith), ready.few, ap length nodes_pass)

  -- the first i counts stand, and n is the next
  pub record Counting (i n : ℕ) (firsts : List ℕ) : Type 0 where
    pub long : length firsts ≡ length order + 1
    pub within : i ≤ length order
    pub done : (j : ℕ) → j < i → get_or firsts j 0 + length (pass_at S j) ≡ length (levelled_nodes S)
    pub here : n + length (pass_at S i) ≡ length (levelled_nodes S)

  pub counting_start : (firsts : List ℕ) → length firsts ≡ length order + 1 → Counting 0 0 firsts
  counting_start firsts e = record { long = e; within = omega arith; done = λ j h. absurd (omega arith); here = omega (arith, ap length nodes_pass) }

  put_count : (i n : ℕ) (firsts : List ℕ) → Counting i n firsts → (j : ℕ) → j < i + 1 → get_or (set firsts i n) j 0 + length (pass_at S j) ≡ length (levelled_nodes S)
  put_count i n firsts v j h = go (ℕ_discrete j i)
    where
      go : Dec (j ≡ i) → get_or (set firsts i n) j 0 + length (pass_at S j) ≡ length (levelled_nodes S)
      go (yes e) = omega (arith, ap (λ k. get_or (set firsts i n) k 0) e ∙ get_or-set_same firsts i n 0 (omega (arith, v.long, v.within)), ap (λ k. length (pass_at S k)) e, v.here)
      go (no e) = omega (arith, get_or-set_other firsts i j n 0 e, v.done j (omega arith))

  pub counting_step : (i n r : ℕ) (firsts : List ℕ) → i < length order → r ≡ length (fresh_beginnings (line_beside (sorted_lines s w) i) (get_or (sorted_lines s w) i [])) → Counting i n firsts → Counting (i + 1) (n + r) (set firsts i n)
  counting_step i n r firsts h e v = record {
    long = length-set firsts i n ∙ v.long;
    within = omega arith;
    done = put_count i n firsts v;
    here = omega (arith, v.here, count_next i h);
  }

  pub counting_few : (i n r : ℕ) (firsts : List ℕ) → i < length order → r ≡ length (fresh_beginnings (line_beside (sorted_lines s w) i) (get_or (sorted_lines s w) i [])) → Counting i n firsts → n + r ≤ 4096
  counting_few i n r firsts h e v = omega (arith, v.here, count_next i h, few_nodes)

  pub counting_end : (i n : ℕ) (firsts : List ℕ) → length order ≤ i → Counting i n firsts → (n ≡ length (levelled_nodes (sorted_lines s w))) × CountsBefore (sorted_lines s w) (set firsts (length order) n)
  counting_end i n firsts h v =
      let e : i ≡ length order = omega (arith, v.within) in (
        omega (arith, v.here, count_end i h),
        subst (λ k. CountsBefore (sorted_lines s w) (set firsts k n)) e
            record { long = omega (arith, length-set firsts i n, v.long, lines_length ready); counts = λ j b. put_count i n firsts v j (omega (arith, lines_length ready, h)) },
      )

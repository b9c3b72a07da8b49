-- Scans of levels, from the outermost on.
use Rattle.std.proofs.Common.{◌≡◌, ℕ, zero, suc, ◌+◌, ◌<◌, ◌≤◌, Bool, List, [], ◌∷◌, length, drop, map, refl, ap, sym, ◌∙◌, arith, Option}
use Rattle.std.proofs.Math.ListN.{get_or}
use Rattle.cv_group.specs.declared.bodies.levels.Level.{Level}
use Rattle.cv_group.specs.bodies.Levels.{level_of}
use Rattle.cv_group_rules.specs.Rules as rule
use Rattle.cv_group_rules.specs.Rules.{range_of, is_asked}
use Rattle.cv_syntax_trees.proofs.lists.Numbers.{suc_is_plus_one}

range_more : (u : ℕ) (over : Option ℕ) (ls : List Level) (k : ℕ) (d : Level) → k < length ls → range_of u over (map level_of (drop k ls)) ≡ range_of u (rule.ranging u over (level_of (get_or ls k d))) (map level_of (drop (suc k) ls))
unfolding range_of
range_more u over [] k d l = absurd (omega arith)
range_more u over (x ∷ ls) zero d l = refl
range_more u over (x ∷ ls) (suc k) d l = range_more u over ls k d (omega arith)

pub range_step : (u : ℕ) (over : Option ℕ) (ls : List Level) (k : ℕ) (d : Level) (found : Option ℕ) (total : Option ℕ) → k < length ls → found ≡ rule.ranging u over (level_of d) → d ≡ get_or ls k d → range_of u over (map level_of (drop k ls)) ≡ total → range_of u found (map level_of (drop (k + 1) ls)) ≡ total
range_step u over ls k d found total l e f h =
    ap (λ o. range_of u o (map level_of (drop (k + 1) ls))) (e ∙ ap (λ x. rule.ranging u over (level_of x)) f)
    ∙ (ap (λ j. range_of u (rule.ranging u over (level_of (get_or ls k d))) (map level_of (drop j ls))) (sym (suc_is_plus_one k))
    ∙ (sym (range_more u over ls k d l) ∙ h))

pub range_end : (u : ℕ) (over total : Option ℕ) (ls : List Level) (k : ℕ) → length ls ≤ k → range_of u over (map level_of (drop k ls)) ≡ total → over ≡ total
unfolding range_of
range_end u over total [] zero l h = h
range_end u over total [] (suc k) l h = h
range_end u over total (x ∷ ls) zero l h = absurd (omega arith)
range_end u over total (x ∷ ls) (suc k) l h = range_end u over total ls k (omega arith) h

asked_more : (v u : ℕ) (asked : Bool) (ls : List Level) (k : ℕ) (d : Level) → k < length ls → is_asked v u asked (map level_of (drop k ls)) ≡ is_asked v u (rule.asking v u asked (level_of (get_or ls k d))) (map level_of (drop (suc k) ls))
unfolding is_asked
asked_more v u asked [] k d l = absurd (omega arith)
asked_more v u asked (x ∷ ls) zero d l = refl
asked_more v u asked (x ∷ ls) (suc k) d l = asked_more v u asked ls k d (omega arith)

pub asked_step : (v u : ℕ) (asked : Bool) (ls : List Level) (k : ℕ) (d : Level) (found total : Bool) → k < length ls → found ≡ rule.asking v u asked (level_of d) → d ≡ get_or ls k d → is_asked v u asked (map level_of (drop k ls)) ≡ total → is_asked v u found (map level_of (drop (k + 1) ls)) ≡ total
asked_step v u asked ls k d found total l e f h =
    ap (λ o. is_asked v u o (map level_of (drop (k + 1) ls))) (e ∙ ap (λ x. rule.asking v u asked (level_of x)) f)
    ∙ (ap (λ j. is_asked v u (rule.asking v u asked (level_of (get_or ls k d))) (map level_of (drop j ls))) (sym (suc_is_plus_one k))
    ∙ (sym (asked_more v u asked ls k d l) ∙ h))

pub asked_end : (v u : ℕ) (asked total : Bool) (ls : List Level) (k : ℕ) → length ls ≤ k → is_asked v u asked (map level_of (drop k ls)) ≡ total → asked ≡ total
unfolding is_asked
asked_end v u asked total [] zero l h = h
asked_end v u asked total [] (suc k) l h = h
asked_end v u asked total (x ∷ ls) zero l h = absurd (omega arith)
asked_end v u asked total (x ∷ ls) (suc k) l h = asked_end v u asked total ls k (omega arith) h

-- Each step with a rule is sound: one arm a rule, by the law of its own.
use Rattle.std.proofs.Common.{◌≡◌, Some, None, subst}
use Rattle.cv_script.specs.Views.{StepItems}
use Rattle.cv_script.specs.Views as items
use Rattle.cv_derive_laws.specs.stores.Steps.{IsSound}
use Rattle.cv_rule_array_names_laws.proofs.Sound.{array_names_sound}
use Rattle.cv_rule_birthday_laws.proofs.Sound.{birthday_sound}
use Rattle.cv_rule_codef.proofs.Sound.{codef_sound}
use Rattle.cv_rule_fresh.proofs.Sound.{fresh_sound}
use Rattle.cv_rule_birthday_laws.proofs.guess.Sound.{guess_sound}
use Rattle.cv_rule_move.proofs.merge.Sound.{merge_sound}
use Rattle.cv_rule_move.proofs.Sound.{move_sound}
use Rattle.cv_rule_array_names.specs.Sites.{listed_names}
use Rattle.cv_rule_pick_laws.proofs.Sound.{pick_sound}
use Rattle.cv_sequences.proofs.soundness.Sound.{let_sound, new_sound, prune_sound, rename_sound, rewrite_sound, split_sound, unlet_sound, unnew_sound}
use Rattle.cv_kernel.specs.Places.{listed_numbers}
use Rattle.cv_kernel.specs.Rules.{Rule, part_of, rule_of_items}

that : (q r : Rule) → Some q ≡ Some r → IsSound q.step → IsSound r.step
that q r e h = let f : q ≡ r = cc in subst (λ (x : Rule). IsSound x.step) f h

pub sound : (i : StepItems) (r : Rule) → rule_of_items i ≡ Some r → IsSound r.step
sound (items.Split p m) r e = that _ r e (split_sound p m)
sound (items.Let p x T m) r e = that _ r e (let_sound p x T m)
sound (items.New p x T) r e = that _ r e (new_sound p x T)
sound (items.Unnew x) r e = that _ r e (unnew_sound x)
sound (items.Rename x y) r e = that _ r e (rename_sound x y)
sound (items.Unlet x) r e = that _ r e (unlet_sound x)
sound (items.Rewrite p m by) r e = that _ r e (rewrite_sound p m by)
sound (items.Prune p part by) r e = that _ r e (prune_sound p (part_of part) by)
sound (items.Move p) r e = that _ r e (move_sound p)
sound (items.Merge p) r e = that _ r e (merge_sound p)
sound (items.Codef p adds to from above) r e = that _ r e (codef_sound p adds above to from)
sound (items.ArrayRename x to) r e = that _ r e (array_names_sound x (listed_names to))
sound (items.Pick p ms d f) r e = that _ r e (pick_sound p ms d f)
sound (items.Fresh p) r e = that _ r e (fresh_sound p)
sound (items.Birthday x at) r e = that _ r e (birthday_sound x (listed_numbers at))
sound (items.Guess x at) r e = that _ r e (guess_sound x (listed_numbers at))
sound i r e = absurd (cc)

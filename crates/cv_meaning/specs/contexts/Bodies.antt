-- How a side answers a call: it chooses the coins, assigns the arguments, and then evaluates the body, in the order of the text.
-- Blanchet and Pointcheval, CRYPTO 2006. That what is chosen stands in cells of the call is this profile's own.
use Rattle.std.specs.Prelude.{ℕ, zero, suc, if◌then◌else◌, List, [], ◌∷◌, Option, Some, None, option_and_then}
use Rattle.cv_syntax_trees.specs.declared.head.Head.{Head}
use Rattle.cv_syntax_trees.specs.declared.head.Head.TheVariants.{New, Let, If, Find, Binder}
use Rattle.cv_syntax_trees.specs.Tree.{Tree, Node, first_place, second_place}
use Rattle.cv_meaning.specs.Tapes.{Tape, Key_at, Made_at, Picked_at}
use Rattle.cv_meaning.specs.Side.{CallNumber, Arrays, OracleCall, OracleAnswer}
use Rattle.cv_meaning.specs.Terms.{is_one}
use Rattle.cv_meaning.specs.contexts.Groups.{Function}
use Rattle.cv_meaning.specs.contexts.Sites.{site_numbered}
use Rattle.cv_meaning.specs.contexts.Frames.{IsValue, Frame, assigned, with_call}
use Rattle.cv_meaning.specs.contexts.BodyTerms.{body_value}
use Rattle.cv_meaning.specs.contexts.Finds.{Oracles, function_of_site, Pick, picks, picked}

-- where a call begins: the key's name stands for the key
abbrev pub begun : Tape → ℕ × ℕ → Arrays → OracleCall → Frame
begun t key m call = record { key = call.key; number = call.number; names = (key.0, IsValue (t (Key_at call.key))) ∷ []; arrays = m }

-- a variable of a body that is chosen at random
abbrev pub with_chosen : Tape → Frame → ℕ → Frame
with_chosen t e x = assigned e x (t (Made_at x e.number.tuple e.number.site))

abbrev pub with_coins : Tape → Frame → List (ℕ × ℕ) → Frame
with_coins t e [] = e
with_coins t e (x ∷ xs) = with_coins t (with_chosen t e x.0) xs

abbrev pub with_arguments : Frame → List (ℕ × ℕ) → List ℕ → Frame
with_arguments e (x ∷ xs) (v ∷ vs) = with_arguments (assigned e x.0 v) xs vs
with_arguments e _ _ = e

-- into the branch of the candidate, or into the else body
abbrev pub after_pick : {A : Type 0} → (ℕ → CallNumber → A) → A → Option Pick → A
after_pick branch otherwise None = otherwise
after_pick branch otherwise (Some c) = branch c.branch c.number

-- the place of a branch's body, where the branch's node is the item of a list at a place
abbrev pub body_place : ℕ → Head → Head → Tree → Head → Tree → Head → Tree → ℕ
body_place p h k binders i cells j condition = second_place (second_place (second_place (first_place p h) k binders) i cells) j condition

unfoldable mutual
  -- at a place of the function's body; what a find picks stands in a cell of its place
  pub body_answer : Oracles → Tape → Frame → ℕ → Tree → OracleAnswer
  body_answer o t e p (Node (New x T) a b) = body_answer o t (with_chosen t e x) (second_place p (New x T) a) b
  body_answer o t e p (Node (Let x T) a b) = body_answer o t (assigned e x (body_value o.setting e a)) (second_place p (Let x T) a) b
  body_answer o t e p (Node If a (Node h b (Node k c d))) =
      if is_one (body_value o.setting e a) then body_answer o t e (first_place (second_place p If a) h) b else body_answer o t e (first_place (second_place (second_place p If a) h b) k) c
  body_answer o t e p (Node (Find l) a b) =
      after_pick (branch_answer o t e (first_place p (Find l)) a) (body_answer o t e (second_place p (Find l) a) b) (picked (picks o e a) (t (Picked_at p e.number.tuple e.number.site)))
  body_answer o t e p m = record { value = body_value o.setting e m; arrays = e.arrays }

  -- the body of a branch of a list, by number, where its index stands for a call
  pub branch_answer : Oracles → Tape → Frame → ℕ → Tree → ℕ → CallNumber → OracleAnswer
  branch_answer o t e p (Node h (Node k (Node (Binder u m) a b) (Node i cells (Node j condition c))) more) zero n =
      body_answer o t (with_call e u n) (body_place p h k (Node (Binder u m) a b) i cells j condition) c
  branch_answer o t e p (Node h branch more) (suc k) n = branch_answer o t e (second_place p h branch) more k n
  branch_answer o t e p _ k n = record { value = 0; arrays = e.arrays }

-- the function that a call is of
abbrev pub function_called : Oracles → CallNumber → Option Function
function_called o n = option_and_then (function_of_site o) (site_numbered o.sites n.site)

abbrev pub function_answer : Oracles → Tape → Arrays → OracleCall → Option Function → OracleAnswer
function_answer o t m call None = record { value = 0; arrays = m }
function_answer o t m call (Some f) =
    body_answer o t (with_arguments (with_coins t (begun t o.group.key m call) f.coins) f.arguments call.arguments) 0 f.body

unfoldable pub reply : Oracles → Tape → Arrays → OracleCall → OracleAnswer
reply o t m call = function_answer o t m call (function_called o call.number)

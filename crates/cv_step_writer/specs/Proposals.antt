-- The trees of proposed steps, as reading their text gives them.
use Rattle.std.specs.Prelude.{ℕ, Bool, true, false, List, [], ◌∷◌, All}
use Rattle.cv_syntax_trees.specs.declared.head.Head.TheVariants as head
use Rattle.cv_syntax_trees.specs.Tree.{Tree, chain}
use Rattle.cv_pool.specs.KindTree.{KindTree}
use Rattle.cv_step_writer.specs.declared.proposals.Body.{Body}
use Rattle.cv_step_writer.specs.declared.proposals.Body.TheVariants as body
use Rattle.cv_step_writer.specs.declared.proposals.Proposal.{Proposal}
use Rattle.cv_step_writer.specs.declared.proposals.Proposal.TheVariants as proposal
use Rattle.cv_step_writer.specs.Items.{name, names, number, numbers, over, term, terms}
use Rattle.cv_step_writer.specs.Derivations.{AreLinesBelow, IsBelow, derivation}
use Rattle.cv_step_writer.specs.Certificates.{IsCertificateBelow, certificate_tree}

abbrev pub body_tree : Body → Tree
body_tree body.Then = over head.ThenPart []
body_tree body.Else = over head.ElsePart []
body_tree (body.Branch k) = number k

-- what a `codef` does
abbrev pub change : (add : Bool) → Tree
change true = over head.AddPart []
change false = over head.DropPart []

-- the word behind one whose variable stands above
abbrev pub standing : (above : Bool) → Tree
standing true = chain (over head.AboveRoute [] ∷ [])
standing false = chain []

abbrev pub step_tree : List KindTree → Proposal → Tree
step_tree trees (proposal.Rename x to) = over head.RenameStep (name x ∷ name to ∷ [])
step_tree trees (proposal.Rewrite p m by) = over head.RewriteStep (number p ∷ term trees m ∷ derivation trees by.items ∷ [])
step_tree trees (proposal.Prune p b by) = over head.PruneStep (number p ∷ body_tree b ∷ derivation trees by.items ∷ [])
step_tree trees (proposal.Pick p ms d e) =
    over head.PickStep (number p ∷ terms trees ms.items ∷ derivation trees d.items ∷ derivation trees e.items ∷ [])
step_tree trees (proposal.Merge p) = over head.MergeStep (number p ∷ [])
step_tree trees (proposal.Split p m) = over head.SplitStep (number p ∷ term trees m ∷ [])
step_tree trees (proposal.Let p x T m) = over head.LetStep (number p ∷ name x ∷ name T ∷ term trees m ∷ [])
step_tree trees (proposal.Unlet x) = over head.UnletStep (name x ∷ [])
step_tree trees (proposal.New p x T) = over head.NewStep (number p ∷ name x ∷ name T ∷ [])
step_tree trees (proposal.Unnew x) = over head.UnnewStep (name x ∷ [])
step_tree trees (proposal.Move p) = over head.MoveStep (number p ∷ [])
step_tree trees (proposal.ArrayRename x to) = over head.ArrayRenameStep (name x ∷ names to.items ∷ [])
step_tree trees (proposal.Codef p add to from above) = over head.CodefStep (number p ∷ change add ∷ term trees to ∷ term trees from ∷ standing above ∷ [])
step_tree trees (proposal.Birthday x at) = over head.BirthdayStep (name x ∷ numbers at.items ∷ [])
step_tree trees (proposal.Guess x at) = over head.GuessStep (name x ∷ numbers at.items ∷ [])
step_tree trees (proposal.Fresh p) = over head.FreshStep (number p ∷ [])
step_tree trees (proposal.Crypto e x) = over head.CryptoStep (name e ∷ name x ∷ [])
step_tree trees (proposal.Success k c) = over head.SuccessStep (number k ∷ certificate_tree trees c ∷ [])
step_tree trees proposal.Simplify = over head.SimplifyStep []

-- the nodes that are named stand below a number
abbrev pub IsProposalBelow : ℕ → Proposal → Type 0
IsProposalBelow n (proposal.Rewrite p m by) = IsBelow n m × AreLinesBelow n by.items
IsProposalBelow n (proposal.Prune p b by) = AreLinesBelow n by.items
IsProposalBelow n (proposal.Pick p ms d e) = All (IsBelow n) ms.items × AreLinesBelow n d.items × AreLinesBelow n e.items
IsProposalBelow n (proposal.Split p m) = IsBelow n m
IsProposalBelow n (proposal.Let p x T m) = IsBelow n m
IsProposalBelow n (proposal.Codef p add to from above) = IsBelow n to × IsBelow n from
IsProposalBelow n (proposal.Success k c) = IsCertificateBelow n c
IsProposalBelow n p = Unit {0}

-- Where the translation of a process is a process of the file, the source is the oracle process that stands for it.
use Rattle.std.proofs.Common.{◌≡◌, ℕ, zero, suc, ◌<◌, true, false, inl, inr, List, arith}
use Rattle.cv_lex.specs.Lexis.{Token}
use Rattle.cv_parse_notation.specs.declared.sign.Sign.{Sign}
use Rattle.cv_parse_notation.specs.Form.{level}
use Rattle.cv_parse_grammar.specs.depth.Files.{most_levels}
use Rattle.cv_parse_grammar.specs.Phrases as sort
use Rattle.cv_parse_grammar.specs.Processes as row
use Rattle.cv_oracles.specs.declared.form.Mode.TheVariants as mode
use Rattle.cv_oracle_laws.specs.Grammar.{Inputs}
use Rattle.cv_oracle_laws.proofs.Runs.{Opened, at, writes}
use Rattle.cv_oracle_laws.proofs.Spelled as spelled
use Rattle.cv_oracle_laws.proofs.Spelled.{IsOne, by_row, is_both, is_either, is_level, is_made}
use Rattle.cv_oracle_laws.proofs.Telling.{Tell}
use Rattle.cv_oracle_laws.proofs.Back.{Back, Below}
use Rattle.cv_oracle_laws.proofs.Tests.{back_branch, back_input, back_inputs, back_output}

-- no phrase has no level

no_room : {A : Type 0} {f : sort.Phrase A} {gs rest : List Sign} → spelled.Is zero (level f) gs rest → ⊥
no_room x = let e : false ≡ true = (is_level x).0 in cc

no_input : (gs rest : List Sign) → spelled.Is zero row.input gs rest → ⊥
no_input gs rest x = elim (is_either x) [
  | inl x ↦ no_room x
  | inr x ↦ elim (is_either x) [ inl x ↦ no_room x | inr x ↦ elim (is_either x) [ inl x ↦ no_room x | inr x ↦ no_room x ] ]
]

no_inputs : (gs rest : List Sign) → spelled.Is zero row.inputs gs rest → ⊥
no_inputs gs rest x = let b = is_both (is_made x) in no_input gs b.0 b.1

no_output : (gs rest : List Sign) → spelled.Is zero row.output gs rest → ⊥
no_output gs rest x = elim (is_either x) [
  | inl x ↦ no_room x
  | inr x ↦ elim (is_either x) [
    | inl x ↦ no_room x
    | inr x ↦ elim (is_either x) [
      | inl x ↦ no_room x
      | inr x ↦ elim (is_either x) [
        | inl x ↦ no_room x
        | inr x ↦ elim (is_either x) [ inl x ↦ no_room x | inr x ↦ elim (is_either x) [ inl x ↦ no_room x | inr x ↦ elim (is_either x) [ inl x ↦ no_room x | inr x ↦ no_room x ] ] ]
      ]
    ]
  ]
]

all_below : (n : ℕ) → n < most_levels → Below n
all_below zero h = record {
  few = h;
  inputs = λ p fs us gs rest x a. absurd (no_inputs gs rest (by_row zero sort.Inputs gs rest x));
  input = λ p fs us gs rest x a. absurd (no_input gs rest (by_row zero sort.Input gs rest x));
  output = λ o fs us gs rest x a. absurd (no_output gs rest (by_row zero sort.Output gs rest x));
  branch = λ o fs us gs rest x a. absurd (no_room (by_row zero sort.ProcessBranch gs rest x));
}
all_below (suc n) h =
    let low = all_below n (omega arith) in
    record {
      few = h;
      inputs = λ p fs us gs rest x a. back_inputs n low p fs us gs rest (by_row (suc n) sort.Inputs gs rest x) a;
      input = λ p fs us gs rest x a. back_input n low p fs us gs rest (by_row (suc n) sort.Input gs rest x) a;
      output = λ o fs us gs rest x a. back_output n low o fs us gs rest (by_row (suc n) sort.Output gs rest x) a;
      branch = λ o fs us gs rest x a. back_branch n low o fs us gs rest (by_row (suc n) sort.ProcessBranch gs rest x) a;
    }

-- a whole process
pub process_back : (n : ℕ) → n < most_levels → (p : Token) (fs : List Opened) (us : List Token) (gs rest : List Sign) → spelled.Is (suc n) row.inputs gs rest → Tell (writes (at mode.Input p fs) us) gs → Back Inputs us gs rest
process_back n h = back_inputs n (all_below n h)

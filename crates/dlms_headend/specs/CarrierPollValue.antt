-- The contract's view of a poll over a carrier.
use Rattle.std.specs.Prelude.{ℕ, List, Option, option_map}
use Rattle.dlms_headend.specs.Due.{Requests, association_with}
use Rattle.dlms_headend.specs.TalkValue.{TalkValue}
use Rattle.dlms_headend.specs.declared.plan.Columns.{Columns}
use Rattle.dlms_headend.specs.declared.plan.PollTerms.{PollTerms}
use Rattle.dlms_headend.specs.declared.stage.PollCourse.{PollCourse}

pub record TermsValue : Type 0 where
  pub secret : Option (List ℕ)
  pub after : Option ℕ
  pub until : Option ℕ
  pub columns : Columns

abbrev pub terms_of : PollTerms → TermsValue
terms_of terms = record {
  secret = option_map (λ secret. secret.items) terms.secret;
  after = terms.after;
  until = terms.until;
  columns = terms.columns;
}

-- what a poll by these terms asks
abbrev pub requests_of : TermsValue → Requests
requests_of terms = record {
  association = association_with terms.secret;
  after = terms.after;
  until = terms.until;
  columns = terms.columns;
}

pub record CarrierPollValue (C : Type 0) : Type 0 where
  pub terms : TermsValue
  pub carrier : C
  pub course : PollCourse
  pub talk : TalkValue

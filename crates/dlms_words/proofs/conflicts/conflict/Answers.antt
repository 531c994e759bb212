use Rattle.std.proofs.Common.{◌≡◌, inl, inr, subst, Bool, false, true, IsTrue}
use Rattle.dlms_words.proofs.conflicts.conflict.Goals as goal

no_truth : (b : Bool) → b ≡ false → IsTrue b → ⊥
no_truth b is_false is_true = let both : false ≡ true = subst (λ (x : Bool). x ≡ true) is_false is_true in cc both

pub returns-clause-none : goal.returns-clause-none
returns-clause-none c = λ both. elim both [
  | inl it ↦ no_truth _ c.if-gives_both.false (c.gives_both.ensures.1 it)
  | inr rest ↦ elim rest [
    | inl it ↦ no_truth _ c.if-gives_client_twice.false (c.gives_client_twice.ensures.1 it)
    | inr rest ↦ elim rest [
      | inl it ↦ no_truth _ c.if-names_two_places.false (c.names_two_places.ensures.1 it)
      | inr rest ↦ elim rest [
        | inl it ↦ no_truth _ c.if-names_and.false (c.names_and.ensures.1 it)
        | inr rest ↦ elim rest [
          | inl it ↦ no_truth _ c.if-gives_both-2.false (c.gives_both-2.ensures.1 it)
          | inr rest ↦ elim rest [
            | inl it ↦ no_truth _ c.if-widens_port.false (c.widens_port.ensures.1 it)
            | inr rest ↦ elim rest [
              | inl it ↦ no_truth _ c.if-sizes_messages.false (c.sizes_messages.ensures.1 it)
              | inr rest ↦ elim rest [
                | inl it ↦ no_truth _ c.if-shows_secret.false (c.shows_secret.ensures.1 it)
                | inr rest ↦ elim rest [
                  | inl it ↦ no_truth _ c.if-reads_idle_counter.false (c.reads_idle_counter.ensures.1 it)
                  | inr rest ↦ elim rest [
                    | inl it ↦ no_truth _ c.if-expects_in_clear.false (c.expects_in_clear.ensures.1 it)
                    | inr rest ↦ elim rest [
                      | inl it ↦ no_truth _ c.if-collects_both.false (c.collects_both.ensures.1 it)
                      | inr rest ↦ elim rest [
                        | inl it ↦ no_truth _ c.if-compares_too.false (c.compares_too.ensures.1 it)
                        | inr rest ↦ elim rest [
                          | inl it ↦ no_truth _ c.if-collects_nothing.false (c.collects_nothing.ensures.1 it)
                          | inr rest ↦ elim rest [
                            | inl it ↦ no_truth _ c.if-prints_report.false (c.prints_report.ensures.1 it)
                            | inr rest ↦ elim rest [
                              | inl it ↦ no_truth _ c.if-pages_nothing.false (c.pages_nothing.ensures.1 it)
                              | inr rest ↦ elim rest [
                                | inl it ↦ no_truth _ c.if-gives_alone.false (c.gives_alone.ensures.1 it)
                                | inr rest ↦ no_truth _ c.if-names_alone.false (c.names_alone.ensures.1 rest)
                              ]
                            ]
                          ]
                        ]
                      ]
                    ]
                  ]
                ]
              ]
            ]
          ]
        ]
      ]
    ]
  ]
]

pub returns-then-prints_report-clause-some : goal.returns-then-prints_report-clause-some
returns-then-prints_report-clause-some c = inr (inr (inr (inr (inr (inr (inr (inr (inr (inr (inr (inr (inr (inl (c.prints_report.ensures.0 c.if-prints_report.true))))))))))))))

pub returns-then-pages_nothing-clause-some : goal.returns-then-pages_nothing-clause-some
returns-then-pages_nothing-clause-some c = inr (inr (inr (inr (inr (inr (inr (inr (inr (inr (inr (inr (inr (inr (inl (c.pages_nothing.ensures.0 c.if-pages_nothing.true)))))))))))))))

pub returns-then-compares_too-clause-some : goal.returns-then-compares_too-clause-some
returns-then-compares_too-clause-some c = inr (inr (inr (inr (inr (inr (inr (inr (inr (inr (inr (inl (c.compares_too.ensures.0 c.if-compares_too.true))))))))))))

pub returns-then-collects_nothing-clause-some : goal.returns-then-collects_nothing-clause-some
returns-then-collects_nothing-clause-some c = inr (inr (inr (inr (inr (inr (inr (inr (inr (inr (inr (inr (inl (c.collects_nothing.ensures.0 c.if-collects_nothing.true)))))))))))))

pub returns-then-gives_alone-clause-some : goal.returns-then-gives_alone-clause-some
returns-then-gives_alone-clause-some c = inr (inr (inr (inr (inr (inr (inr (inr (inr (inr (inr (inr (inr (inr (inr (inl (c.gives_alone.ensures.0 c.if-gives_alone.true))))))))))))))))

pub returns-then-names_alone-clause-some : goal.returns-then-names_alone-clause-some
returns-then-names_alone-clause-some c = inr (inr (inr (inr (inr (inr (inr (inr (inr (inr (inr (inr (inr (inr (inr (inr (c.names_alone.ensures.0 c.if-names_alone.true))))))))))))))))

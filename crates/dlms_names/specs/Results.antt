-- What becomes of a request, and of an association (IEC 62056-5-3, the types that are named).
use Rattle.std.specs.Prelude.{ℕ, List, [], ◌∷◌, codes}
use Rattle.dlms_names.specs.Rows.{Rows}

-- Data-Access-Result, what becomes of a GET or a SET
abbrev pub access_results : Rows
access_results =
    (0, codes "success")
    ∷ (1, codes "hardware-fault")
    ∷ (2, codes "temporary-failure")
    ∷ (3, codes "read-write-denied")
    ∷ (4, codes "object-undefined")
    ∷ (9, codes "object-class-inconsistent")
    ∷ (11, codes "object-unavailable")
    ∷ (12, codes "type-unmatched")
    ∷ (13, codes "scope-of-access-violated")
    ∷ (14, codes "data-block-unavailable")
    ∷ (15, codes "long-get-aborted")
    ∷ (16, codes "no-long-get-in-progress")
    ∷ (17, codes "long-set-aborted")
    ∷ (18, codes "no-long-set-in-progress")
    ∷ (19, codes "data-block-number-invalid")
    ∷ (250, codes "other-reason")
    ∷ []

-- Action-Result, what becomes of an ACTION
abbrev pub action_results : Rows
action_results =
    (0, codes "success")
    ∷ (1, codes "hardware-fault")
    ∷ (2, codes "temporary-failure")
    ∷ (3, codes "read-write-denied")
    ∷ (4, codes "object-undefined")
    ∷ (9, codes "object-class-inconsistent")
    ∷ (11, codes "object-unavailable")
    ∷ (12, codes "type-unmatched")
    ∷ (13, codes "scope-of-access-violated")
    ∷ (14, codes "data-block-unavailable")
    ∷ (15, codes "long-action-aborted")
    ∷ (16, codes "no-long-action-in-progress")
    ∷ (19, codes "data-block-number-invalid")
    ∷ (250, codes "other-reason")
    ∷ []

-- the state-error of an ExceptionResponse
abbrev pub state_errors : Rows
state_errors =
    (1, codes "service-not-allowed")
    ∷ (2, codes "service-unknown")
    ∷ []

-- the service-error of an ExceptionResponse
abbrev pub service_errors : Rows
service_errors =
    (1, codes "operation-not-possible")
    ∷ (2, codes "service-not-supported")
    ∷ (3, codes "other-reason")
    ∷ (4, codes "pdu-too-long")
    ∷ (5, codes "deciphering-error")
    ∷ (6, codes "invocation-counter-error")
    ∷ []

-- the diagnostic acse-service-user of Associate-source-diagnostic
abbrev pub diagnostics : Rows
diagnostics =
    (0, codes "null")
    ∷ (1, codes "no-reason-given")
    ∷ (2, codes "application-context-name-not-supported")
    ∷ (3, codes "calling-AP-title-not-recognized")
    ∷ (4, codes "calling-AP-invocation-identifier-not-recognized")
    ∷ (5, codes "calling-AE-qualifier-not-recognized")
    ∷ (6, codes "calling-AE-invocation-identifier-not-recognized")
    ∷ (7, codes "called-AP-title-not-recognized")
    ∷ (8, codes "called-AP-invocation-identifier-not-recognized")
    ∷ (9, codes "called-AE-qualifier-not-recognized")
    ∷ (10, codes "called-AE-invocation-identifier-not-recognized")
    ∷ (11, codes "authentication-mechanism-name-not-recognised")
    ∷ (12, codes "authentication-mechanism-name-required")
    ∷ (13, codes "authentication-failure")
    ∷ (14, codes "authentication-required")
    ∷ []

-- the initiate error of a ConfirmedServiceError
abbrev pub initiate_errors : Rows
initiate_errors =
    (0, codes "other")
    ∷ (1, codes "dlms-version-too-low")
    ∷ (2, codes "incompatible-conformance")
    ∷ (3, codes "pdu-size-too-short")
    ∷ (4, codes "refused-by-the-VDE-Handler")
    ∷ []

-- Release-request-reason
abbrev pub release_requests : Rows
release_requests =
    (0, codes "normal")
    ∷ (1, codes "urgent")
    ∷ (30, codes "user-defined")
    ∷ []

-- Release-response-reason
abbrev pub release_responses : Rows
release_responses =
    (0, codes "normal")
    ∷ (1, codes "not-finished")
    ∷ (30, codes "user-defined")
    ∷ []

use Rattle.dlms_classes.specs.Access.{attribute_of, method_of}
use Rattle.dlms_classes.proofs.Readers.{reads_as_management, writes_its_secret, sets_its_own, calls_nothing}
use Rattle.dlms_classes.proofs.laws.the_reader_changes_only_its_secret.Goals as goal

pub returns-clause-reads : goal.returns-clause-reads
returns-clause-reads c = λ d. reads_as_management (attribute_of d)

pub returns-clause-writes : goal.returns-clause-writes
returns-clause-writes c = λ d a h. writes_its_secret (attribute_of d) a h

pub returns-clause-own : goal.returns-clause-own
returns-clause-own c = λ v setting h. sets_its_own v setting h

pub returns-clause-calls : goal.returns-clause-calls
returns-clause-calls c = λ d method h. calls_nothing (method_of d) method h

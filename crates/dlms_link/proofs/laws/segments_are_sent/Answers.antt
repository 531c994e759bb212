use Rattle.dlms_link.proofs.Sending.{meter_sends, client_sends, read_again}
use Rattle.dlms_link.proofs.laws.segments_are_sent.Goals as goal

pub returns : goal.returns
returns c = record { meter = meter_sends; client = client_sends; read_again = read_again }
